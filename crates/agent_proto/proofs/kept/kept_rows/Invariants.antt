use Rattle.std.proofs.Common.{take}
use Rattle.std.specs.List.{AllByRecursion}
use Rattle.agent_proto.specs.Messages.{IsRow}
use Rattle.agent_proto.proofs.kept.kept_rows.Given as goal

abbrev pub invariant-loop-name : goal.invariant-loop-name
invariant-loop-name l = AllByRecursion IsRow (take l.name-index l.rows)
