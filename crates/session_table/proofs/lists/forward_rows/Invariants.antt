use Rattle.std.proofs.Common.{◌≡◌, ◌++◌}
use Rattle.session_table.specs.Lists.{forward_rows}
use Rattle.session_table.proofs.lists.forward_rows.Given as goal

abbrev pub invariant-loop-id : goal.invariant-loop-id
invariant-loop-id l = l.rows ++ forward_rows l.id-iterator ≡ forward_rows l.fn.sessions.live
