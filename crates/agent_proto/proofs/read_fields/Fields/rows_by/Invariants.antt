use Rattle.std.proofs.Common.{◌≡◌, ◌-◌}
use Rattle.agent_proto.specs.Reading.{rows_by}
use Rattle.agent_proto.proofs.Listing.{behind}
use Rattle.agent_proto.proofs.read_fields.Fields.rows_by.Given as goal

abbrev pub invariant-loop-row : goal.invariant-loop-row
invariant-loop-row l = rows_by l.count l.initial.self ≡ behind l.rows (rows_by (l.count - l._row) l.self)
