use Rattle.std.proofs.Common.{◌≡◌, ◌++◌, drop}
use Rattle.cycle_core.specs.Changing.{all_problems}
use Rattle.cycle_core.proofs.changing.Changing.report.Given as goal

-- the problems so far, and those to come
abbrev pub invariant-loop-steps : goal.invariant-loop-steps
invariant-loop-steps l = l.problems ++ all_problems (drop l.steps-index l.self) ≡ l.fn.problems ++ all_problems l.self
