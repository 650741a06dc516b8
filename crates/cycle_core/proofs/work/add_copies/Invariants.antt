use Rattle.std.proofs.Common.{◌≡◌, ◌++◌, drop}
use Rattle.cycle_core.proofs.work.add_copies.Given as goal

-- the problems so far, and those to come
abbrev pub invariant-loop-problem : goal.invariant-loop-problem
invariant-loop-problem l = l.problems ++ drop l.problem-index l.more ≡ l.fn.problems ++ l.more
