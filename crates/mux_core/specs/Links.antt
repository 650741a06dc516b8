-- What the link carries for one stream.
use Rattle.std.specs.Prelude.{◌≡◌, ℕ, ◌+◌, ◌==◌, if◌then◌else◌, List, [], ◌∷◌, ◌++◌, Option, Some, None}
use Rattle.mux_frames.specs.declared.frame.MuxFrame.{MuxFrame}
use Rattle.mux_frames.specs.declared.frame.MuxFrame.TheVariants.{Payload, Window}
use Rattle.mux_frames.specs.Streams.{stream_of, AreFrames}
use Rattle.mux_core.specs.declared.stream.Stream.{Stream}
use Rattle.mux_core.specs.Worlds.{Post}

-- the bytes of the stream in a frame
abbrev pub payload_on : ℕ → MuxFrame → List ℕ
payload_on n (Payload stream bytes) = if stream == n then bytes else []
payload_on n _ = []

-- the bytes of the stream in Data frames
abbrev pub payloads : ℕ → List MuxFrame → List ℕ
payloads n [] = []
payloads n (frame ∷ frames) = payload_on n frame ++ payloads n frames

-- the amount of the stream in a frame
abbrev pub window_on : ℕ → MuxFrame → ℕ
window_on n (Window stream amount) = if stream == n then amount else 0
window_on n _ = 0

-- the amounts of the stream in Window frames
abbrev pub windows : ℕ → List MuxFrame → ℕ
windows n [] = 0
windows n (frame ∷ frames) = window_on n frame + windows n frames

-- The link from one end to the other carries these frames: the part of a frame that the other end's
-- reader holds, and behind it what waits at this end.
abbrev pub Carries : Post → Post → List MuxFrame → Type 0
Carries from to frames = AreFrames frames × (to.reader.held ++ from.end.waiting ≡ stream_of frames)

-- what is buffered of a stream, where it is live
abbrev pub buffered_in : Option Stream → List ℕ
buffered_in None = []
buffered_in (Some s) = s.buffer
