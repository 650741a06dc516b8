use Rattle.std.proofs.Common.{◌≡◌, ◌≤◌, ◌++◌, length, take, drop}
use Rattle.std.specs.List.{concat}
use Rattle.mux_core.proofs.byte_queue.fill.Given as goal

-- cut to the size, the bytes so far and the pieces that are left are those of the beginning
abbrev pub invariant-loop-piece : goal.invariant-loop-piece
invariant-loop-piece l = (length l.bytes.items ≤ l.count) × (take l.count (l.bytes.items ++ concat (drop l.piece-index l.pieces)) ≡ take l.count (l.fn.bytes.items ++ concat l.pieces))
