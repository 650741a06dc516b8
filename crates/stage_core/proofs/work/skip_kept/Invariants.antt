use Rattle.stage_core.proofs.Passing.{Passes}
use Rattle.stage_core.proofs.work.skip_kept.Given as goal

abbrev pub invariant-turns : goal.invariant-turns
invariant-turns l = Passes l.kept l.fn.left.items l.left.items l.counter l.end
