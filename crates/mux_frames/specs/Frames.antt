-- The grammar of a frame: a frame and its spelling.
use Rattle.std.specs.Prelude.{◌≡◌, ℕ, List, ◌∷◌, ◌++◌, length}
use Rattle.std.specs.Int.{w16, w32, to_be_bytes}
use Rattle.mux_frames.specs.declared.wire.TheConstants.{KIND_OPEN, KIND_ACCEPT, KIND_DATA, KIND_WINDOW, KIND_CLOSE_WRITE, KIND_CLOSE, KIND_HEARTBEAT}
use Rattle.mux_frames.specs.declared.frame.MuxFrame.{MuxFrame}
use Rattle.mux_frames.specs.declared.frame.MuxFrame.TheVariants.{OpenStream, Accept, Payload, Window, CloseWrite, Close, Heartbeat}
use Rattle.mux_frames.specs.Fields.{IsStreamId, IsPayload, IsAmount}

-- the bytes of a frame: the kind, the stream in four bytes, and what the kind has behind them
abbrev pub spelling : MuxFrame → List ℕ
spelling (OpenStream stream) = KIND_OPEN ∷ to_be_bytes w32 stream
spelling (Accept stream) = KIND_ACCEPT ∷ to_be_bytes w32 stream
spelling (Payload stream bytes) = KIND_DATA ∷ (to_be_bytes w32 stream ++ to_be_bytes w16 (length bytes) ++ bytes)
spelling (Window stream amount) = KIND_WINDOW ∷ (to_be_bytes w32 stream ++ to_be_bytes w32 amount)
spelling (CloseWrite stream) = KIND_CLOSE_WRITE ∷ to_be_bytes w32 stream
spelling (Close stream) = KIND_CLOSE ∷ to_be_bytes w32 stream
spelling Heartbeat = KIND_HEARTBEAT ∷ to_be_bytes w32 0

-- a frame whose fields are in range
abbrev pub IsFrame : MuxFrame → Type 0
IsFrame (OpenStream stream) = IsStreamId stream
IsFrame (Accept stream) = IsStreamId stream
IsFrame (Payload stream bytes) = IsStreamId stream × IsPayload bytes
IsFrame (Window stream amount) = IsStreamId stream × IsAmount amount
IsFrame (CloseWrite stream) = IsStreamId stream
IsFrame (Close stream) = IsStreamId stream
IsFrame Heartbeat = Unit {0}

-- these bytes are a frame
abbrev pub IsSpelling : List ℕ → Type 0
IsSpelling bytes = (frame : MuxFrame) × IsFrame frame × (bytes ≡ spelling frame)
