use Rattle.std.proofs.Common.{length}
use Rattle.std.specs.List.{AllByRecursion}
use Rattle.request_laws.specs.Kept.{IsPatternText}
use Rattle.request_laws.proofs.kept.are_patterns.Given as goal

-- if each of those that are left is one, each is
abbrev pub invariant-loop-rest : goal.invariant-loop-rest
invariant-loop-rest l = AllByRecursion IsPatternText l.rest → AllByRecursion IsPatternText l.fn.patterns

abbrev pub decreases-loop-rest : goal.decreases-loop-rest
decreases-loop-rest l = length l.rest
