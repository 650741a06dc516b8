use Rattle.std.proofs.Common.{◌≡◌, ◌++◌}
use Rattle.session_table.specs.Lists.{sync_rows}
use Rattle.session_table.proofs.lists.sync_rows.Given as goal

abbrev pub invariant-loop-id : goal.invariant-loop-id
invariant-loop-id l = l.rows ++ sync_rows l.fn.label l.id-iterator ≡ sync_rows l.fn.label l.fn.sessions.live
