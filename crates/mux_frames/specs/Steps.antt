-- What a scan of the bytes at one frame's place found.
use Rattle.std.specs.Prelude.{◌≡◌, ℕ, ◌+◌, ◌<◌, ◌≤◌, List, ◌∷◌, ◌++◌, length, take}
use Rattle.std.specs.Int.{w16, w32, to_be_bytes}
use Rattle.mux_frames.specs.declared.wire.TheConstants.{MAX_PAYLOAD}
use Rattle.mux_frames.specs.declared.kind.Kind.{Kind}
use Rattle.mux_frames.specs.declared.kind.Kind.TheVariants as kinds
use Rattle.mux_frames.specs.declared.scan.Body.{Body}
use Rattle.mux_frames.specs.declared.scan.Body.TheVariants as bodies
use Rattle.mux_frames.specs.declared.scan.Step.{Step}
use Rattle.mux_frames.specs.declared.scan.Step.TheVariants as steps
use Rattle.mux_frames.specs.Fields.{IsStreamId}
use Rattle.mux_frames.specs.Kinds.{code}
use Rattle.mux_frames.specs.Frames.{spelling, IsFrame, IsSpelling}
use Rattle.mux_frames.specs.Prefix.{Continues, IsFault}

-- behind the byte of this kind these bytes are a frame
abbrev pub IsBody : Kind → List ℕ → Type 0
IsBody kind bytes = IsSpelling (code kind ∷ bytes)

-- what stands behind the byte of a kind
abbrev pub ScansBody : Kind → List ℕ → Body → Type 0
ScansBody kind bytes (bodies.Plain frame size) = (size ≤ length bytes) × IsFrame frame × (code kind ∷ take size bytes ≡ spelling frame)
ScansBody kind bytes (bodies.Data stream size) = (kind ≡ kinds.Data) × (6 + size ≤ length bytes) × IsStreamId stream × (0 < size) × (size ≤ MAX_PAYLOAD) × (take 6 bytes ≡ to_be_bytes w32 stream ++ to_be_bytes w16 size)
ScansBody kind bytes bodies.Partial = Continues (IsBody kind) bytes
ScansBody kind bytes (bodies.Bad place) = IsFault (IsBody kind) bytes place

-- what stands at the front of the bytes
abbrev pub Steps : List ℕ → Step → Type 0
Steps bytes (steps.Frame frame size) = (size ≤ length bytes) × IsFrame frame × (take size bytes ≡ spelling frame)
Steps bytes steps.Partial = Continues IsSpelling bytes
Steps bytes (steps.Bad place) = IsFault IsSpelling bytes place

-- the bytes begin with this stream
abbrev pub IsStreamOf : ℕ → List ℕ → Type 0
IsStreamOf stream bytes = IsStreamId stream × (4 ≤ length bytes) × (take 4 bytes ≡ to_be_bytes w32 stream)
