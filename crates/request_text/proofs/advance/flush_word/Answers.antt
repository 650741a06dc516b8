use Rattle.std.proofs.Common.{◌≡◌, ◌∙◌, sym, ap, codes, false, true, rules}
use Rattle.std.specs.Prelude.{bytes_eq}
use Rattle.std.proofs.lemmas.Result.{IfOk-weaker}
use Rattle.command_words.specs.declared.session.SessionWord.{SessionWord}
use Rattle.request_text.specs.Places.{IsSessionOf, Via}
use Rattle.request_text.specs.declared.place.Place.TheVariants as at
use Rattle.request_text.specs.declared.request.Request.TheVariants as requests
use Rattle.request_text.proofs.Choices.{right_step}
use Rattle.request_text.proofs.advance.flush_word.Goals as goal

pub returns : goal.returns
returns c =
    let none : bytes_eq c.args.word.now (codes "--skip-wait") ≡ false = search rules in
    IfOk-weaker c.flush_session.result _ _ (λ found h. right_step found (λ place. (c.args.word.now ≡ codes "--skip-wait") × (place ≡ at.SyncFlushSkipWait))
    (Via {V = SessionWord} (IsSessionOf c.args.word.now) (λ session. at.Done (requests.SyncFlush session))) h
    (λ t l. let k : false ≡ true = sym none ∙ ap (λ w. bytes_eq w (codes "--skip-wait")) l.0 in absurd (cc))) c.flush_session.ensures
