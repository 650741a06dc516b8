use Rattle.std.proofs.Common.{ℕ, List, [], ap, sym, ◌∙◌, Option}
use Rattle.std.specs.Prelude.{unwrap_or}
use Rattle.std.specs.Option.{option_copied}
use Rattle.std.proofs.lemmas.Option.{unwrap_or-slice_get}
use Rattle.roots_api.specs.States.{RootState, content_of}
use Rattle.mem_roots.proofs.state.State.content.Goals as goal

pub returns-in-None : goal.returns-in-None
returns-in-None c =
    ap (λ (o : Option (List ℕ)). unwrap_or o []) (sym (ap option_copied c.in-None.is) ∙ c.get.ensures)
    ∙ unwrap_or-slice_get c.self.inside.ledger c.args.stamp.0 []
    ∙ ap (λ (s : RootState). content_of s.ledger c.args.stamp) c.self.view_is
