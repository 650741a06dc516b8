use denote.Builtin.{u64}
use denote.Param.Send.{IsSend, sendable}
use Rattle.std.proofs.Crossing.{crosses}
use Rattle.history_cell.specs.contracts.tests.Counter.{the_row as counter}
use Rattle.history_cell.specs.contracts.tests.CounterObject.TheImpl.{ghosts}
use Rattle.history_cell.proofs.Crossing.{pass_send, cell_sync}
use Rattle.history_cell.proofs.tests.add_by_two.Goals as goal

pub join-requires-send-F : goal.join-requires-send-F
join-requires-send-F g c κs within =
    let object : IsSend counter = search (sendable, crosses) depth 20 in
    let cell = cell_sync counter u64 u64 ghosts object in
    let pass = pass_send counter u64 u64 ghosts object in
    let rt = c.type_bounds.sync-R in
    search (sendable, crosses) depth 40

pub join-requires-send-A : goal.join-requires-send-A
join-requires-send-A g c κs within = search (sendable, crosses, pass_send) depth 40
