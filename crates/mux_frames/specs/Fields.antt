-- What the fields of a frame may be.
use Rattle.std.specs.Prelude.{ℕ, ◌<◌, ◌≤◌, ◌^◌, List, length}
use Rattle.mux_frames.specs.declared.wire.TheConstants.{MAX_PAYLOAD, MAX_AMOUNT}

-- a stream's number: four bytes, and not 0
abbrev pub IsStreamId : ℕ → Type 0
IsStreamId stream = (0 < stream) × (stream < 2 ^ 32)

-- as many bytes as a Data frame carries; that each is a byte is said by their type
abbrev pub IsPayload : List ℕ → Type 0
IsPayload bytes = (0 < length bytes) × (length bytes ≤ MAX_PAYLOAD)

-- as much as a Window frame raises a credit
abbrev pub IsAmount : ℕ → Type 0
IsAmount count = (0 < count) × (count ≤ MAX_AMOUNT)
