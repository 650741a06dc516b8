use Rattle.std.proofs.Common.{ap, sym, ◌∙◌, Option}
use Rattle.std.specs.Prelude.{unwrap_or}
use Rattle.std.specs.Option.{option_copied}
use Rattle.std.specs.FinMap as map
use Rattle.std.specs.Cmp.Lexicographic.{slice_cmp}
use Rattle.std.specs.Ordering.{nat_cmp}
use Rattle.roots_api.specs.States.{RootState, Staged, nothing_staged, kept_by}
use Rattle.mem_roots.proofs.state.State.kept.Goals as goal

pub returns-in-None : goal.returns-in-None
returns-in-None c =
    sym (map.get-empty (slice_cmp nat_cmp) c.args.digest.now)
    ∙ ap (λ (o : Option Staged). map.get (unwrap_or o nothing_staged).kept c.args.digest.now) (sym (ap option_copied c.in-None.is) ∙ c.get.ensures)
    ∙ ap (λ (s : RootState). kept_by s c.args.id c.args.digest.now) c.self.view_is
