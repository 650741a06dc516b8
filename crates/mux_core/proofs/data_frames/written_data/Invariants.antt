use Rattle.std.proofs.Common.{◌≡◌, ◌++◌, length}
use Rattle.mux_frames.specs.Streams.{stream_of}
use Rattle.mux_core.specs.Calls.{data_frames}
use Rattle.mux_core.proofs.data_frames.written_data.Given as goal

-- the frames so far and those of what is left are those of all bytes
abbrev pub invariant-loop-rest : goal.invariant-loop-rest
invariant-loop-rest l = l.sent.items ++ stream_of (data_frames l.stream l.rest) ≡ stream_of (data_frames l.stream l.bytes)

abbrev pub decreases-loop-rest : goal.decreases-loop-rest
decreases-loop-rest l = length l.rest
