-- A stream of frames, one behind the other.
use Rattle.std.specs.Prelude.{◌≡◌, ℕ, List, ◌++◌}
use Rattle.std.specs.List.{flat_map, AllByRecursion}
use Rattle.mux_frames.specs.declared.frame.MuxFrame.{MuxFrame}
use Rattle.mux_frames.specs.Frames.{spelling, IsFrame, IsSpelling}
use Rattle.mux_frames.specs.Prefix.{Continues}

-- the bytes of the frames, one behind the other
abbrev pub stream_of : List MuxFrame → List ℕ
stream_of frames = flat_map spelling frames

-- each of them has its fields in range
abbrev pub AreFrames : List MuxFrame → Type 0
AreFrames frames = AllByRecursion IsFrame frames

-- these bytes are whole frames, one behind the other
abbrev pub IsStream : List ℕ → Type 0
IsStream bytes = (frames : List MuxFrame) × AreFrames frames × (bytes ≡ stream_of frames)

-- the bytes are these frames, and then less than a whole one that some frame continues
pub record Splits (bytes : List ℕ) (frames : List MuxFrame) (rest : List ℕ) : Type 0 where
  pub whole : bytes ≡ stream_of frames ++ rest
  pub each : AreFrames frames
  pub partial : Continues IsSpelling rest

-- Of the frames that were sent these were read, and the others are the bytes that are held back and
-- those still to come.
pub record IsFrontOf (sent read : List MuxFrame) (held more : List ℕ) : Type 0 where
  pub later : List MuxFrame
  pub each : AreFrames later
  pub sent_is : sent ≡ read ++ later
  pub ahead : held ++ more ≡ stream_of later
