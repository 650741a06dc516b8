use Rattle.std.proofs.Common.{◌≡◌}
use Rattle.history_cell.proofs.cell.HistoryCell.wait_for.Given as goal

-- its ticket wasn't served yet
abbrev pub invariant-loop : goal.invariant-loop
invariant-loop g l =
    (l.seat.table_id ≡ l.initial.seat.table_id)
    × (l.seat.id ≡ l.initial.seat.id)
    × (l.seat.me ≡ l.initial.seat.me)
