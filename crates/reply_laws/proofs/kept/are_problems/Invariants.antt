use Rattle.std.proofs.Common.{length}
use Rattle.std.specs.List.{AllByRecursion}
use Rattle.reply_laws.specs.Kept.{IsProblem}
use Rattle.reply_laws.proofs.kept.are_problems.Given as goal

-- if each of those that are left has, each has
abbrev pub invariant-loop-rest : goal.invariant-loop-rest
invariant-loop-rest l = AllByRecursion IsProblem l.rest → AllByRecursion IsProblem l.fn.problems

abbrev pub decreases-loop-rest : goal.decreases-loop-rest
decreases-loop-rest l = length l.rest
