use Rattle.mux_frames.specs.Bytes.{bytes_of}
use Rattle.mux_frames.proofs.Digits.{Tracks}
use Rattle.mux_frames.proofs.field.field_at.Given as goal

abbrev pub invariant-loop-i : goal.invariant-loop-i
invariant-loop-i l = Tracks l.width l.low l.high (bytes_of l.rest) l.i l.least l.span
