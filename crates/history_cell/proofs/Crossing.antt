-- A pass and a cell may cross threads where the object may, as a set for `search`.
use denote.RattleType.{RattleType}
use denote.Param.Send.{IsSend, IsSync, sendable}
use Rattle.std.proofs.Crossing.{crosses}
use Rattle.std.specs.contracts.option.Option.{the_row as option_row}
use Rattle.atomic_table.specs.contracts.shared.Seat.{the_row as seat_row}
use Rattle.atomic_table.proofs.shared.Seat.TheSendSync.{the_send}
use Rattle.atomic_table.proofs.shared.Shared.TheSendSync as shared
use Rattle.atomic_table.proofs.send_lease.SendLease.TheSendSync as lease
use Rattle.history_cell.specs.contracts.cell.HistoryCell.{the_row as cell_row}
use Rattle.history_cell.specs.contracts.kept.Kept.{the_row as kept_row}
use Rattle.history_cell.specs.contracts.view.View.{the_row as view_row}
use Rattle.history_cell.specs.contracts.pass.Pass.{the_row as pass_row}
use Rattle.history_cell.specs.declared.object.Object.{Ghosts}

module _ (O A B : RattleType) where
  pub kept_send : IsSend O → IsSend (kept_row O A B)
  kept_send s = search (sendable, crosses) depth 20

  pub slot_send : IsSend O → IsSend (option_row (kept_row O A B))
  slot_send s = let kept = kept_send s in search (sendable, crosses) depth 20

  pub seat_send : IsSend O → IsSend (seat_row (option_row (kept_row O A B)) (view_row O A B))
  seat_send s = the_send (option_row (kept_row O A B)) (view_row O A B) (slot_send s)

  pub pass_send : (g : Ghosts O.Denot A.Denot B.Denot) → IsSend O → IsSend (pass_row O A B g)
  pass_send g s = let seat = seat_send s in search (sendable, crosses) depth 20

  pub cell_sync : (g : Ghosts O.Denot A.Denot B.Denot) → IsSend O → IsSync (cell_row O A B g)
  cell_sync g s = let slot = slot_send s in search (sendable, crosses, shared.the_sync, lease.the_sync) depth 20

  pub cell_send : (g : Ghosts O.Denot A.Denot B.Denot) → IsSend O → IsSend (cell_row O A B g)
  cell_send g s = let slot = slot_send s in search (sendable, crosses, shared.the_send, lease.the_send) depth 20

-- what crosses threads of this crate
pub ruleset cells = (pass_send, cell_send, cell_sync)
