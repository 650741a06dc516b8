use Rattle.std.proofs.Common.{length}
use Rattle.std.specs.List.{AllByRecursion}
use Rattle.reply_laws.specs.Kept.{IsListed}
use Rattle.reply_laws.proofs.kept.are_listed.Given as goal

-- if each of those that are left has, each has
abbrev pub invariant-loop-rest : goal.invariant-loop-rest
invariant-loop-rest l = AllByRecursion IsListed l.rest → AllByRecursion IsListed l.fn.entries

abbrev pub decreases-loop-rest : goal.decreases-loop-rest
decreases-loop-rest l = length l.rest
