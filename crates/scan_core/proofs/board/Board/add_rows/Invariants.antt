use Rattle.std.proofs.Common.{◌≡◌, take}
use Rattle.scan_core.specs.Board.{with_rows}
use Rattle.scan_core.proofs.board.Board.add_rows.Given as goal

-- the rows so far are gone through
abbrev pub invariant-loop-name : goal.invariant-loop-name
invariant-loop-name l = l.self ≡ with_rows l.rules l.cache l.folder l.initial.self (take l.name-index l.rows)
