use Rattle.std.proofs.Common.{sym, subst}
use Rattle.request_text.specs.Places.{Goes, Steps}
use Rattle.request_text.specs.declared.place.Place.TheVariants as at
use Rattle.request_text.proofs.advance.behind_first.Goals as goal

pub returns-in-Sync : goal.returns-in-Sync
returns-in-Sync c = subst (λ f. Steps (Goes c.args.numbered (at.First f) c.args.word.now) c.sync_verb.result) (sym c.in-Sync.is) c.sync_verb.ensures

pub returns-in-Forward : goal.returns-in-Forward
returns-in-Forward c = subst (λ f. Steps (Goes c.args.numbered (at.First f) c.args.word.now) c.forward_verb.result) (sym c.in-Forward.is) c.forward_verb.ensures
