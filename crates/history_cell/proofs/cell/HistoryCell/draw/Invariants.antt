use Rattle.std.proofs.Common.{◌≡◌, []}
use Rattle.history_cell.specs.Steps.{knowing_drawn}
use Rattle.history_cell.proofs.cell.HistoryCell.draw.Given as goal

-- it has looked, and drawn nothing
abbrev pub invariant-loop : goal.invariant-loop
invariant-loop g l =
    (l.seat.table_id ≡ l.initial.seat.table_id)
    × (l.seat.id ≡ l.initial.seat.id)
    × (l.seat.me ≡ (knowing_drawn l.initial.seat.me.0 l.seat.me.0.drawn, []))
