use Rattle.std.proofs.Common.{◌-◌, length}
use Rattle.mux_frames.specs.Bytes.{bytes_of}
use Rattle.mux_frames.proofs.Found.{Found}
use Rattle.mux_frames.proofs.batch.frames_of.Given as goal

abbrev pub invariant-loop-frames : goal.invariant-loop-frames
invariant-loop-frames l = Found (bytes_of l.bytes) l.frames.items l.used

abbrev pub decreases-loop-frames : goal.decreases-loop-frames
decreases-loop-frames l = length (bytes_of l.bytes) - l.used
