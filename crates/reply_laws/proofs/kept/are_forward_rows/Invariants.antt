use Rattle.std.proofs.Common.{length}
use Rattle.std.specs.List.{AllByRecursion}
use Rattle.reply_laws.specs.Kept.{IsForwardRow}
use Rattle.reply_laws.proofs.kept.are_forward_rows.Given as goal

-- if each of those that are left has, each has
abbrev pub invariant-loop-rest : goal.invariant-loop-rest
invariant-loop-rest l = AllByRecursion IsForwardRow l.rest → AllByRecursion IsForwardRow l.fn.rows

abbrev pub decreases-loop-rest : goal.decreases-loop-rest
decreases-loop-rest l = length l.rest
