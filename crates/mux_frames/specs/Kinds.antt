-- The kinds of frames and their first bytes.
use Rattle.std.specs.Prelude.{ℕ, ◌-◌, ◌^◌, Option, Some, None, ◌==◌, if◌then◌else◌}
use Rattle.mux_frames.specs.declared.wire.TheConstants.{KIND_OPEN, KIND_ACCEPT, KIND_DATA, KIND_WINDOW, KIND_CLOSE_WRITE, KIND_CLOSE, KIND_HEARTBEAT}
use Rattle.mux_frames.specs.declared.kind.Kind.{Kind}
use Rattle.mux_frames.specs.declared.kind.Kind.TheVariants as kinds

-- the byte of a kind
abbrev pub code : Kind → ℕ
code kinds.Open = KIND_OPEN
code kinds.Accept = KIND_ACCEPT
code kinds.Data = KIND_DATA
code kinds.Window = KIND_WINDOW
code kinds.CloseWrite = KIND_CLOSE_WRITE
code kinds.Close = KIND_CLOSE
code kinds.Heartbeat = KIND_HEARTBEAT

-- the kind of a byte
abbrev pub kind_of : ℕ → Option Kind
kind_of byte =
    if byte == KIND_OPEN then Some kinds.Open
    else (if byte == KIND_ACCEPT then Some kinds.Accept
    else (if byte == KIND_DATA then Some kinds.Data
    else (if byte == KIND_WINDOW then Some kinds.Window
    else (if byte == KIND_CLOSE_WRITE then Some kinds.CloseWrite
    else (if byte == KIND_CLOSE then Some kinds.Close
    else (if byte == KIND_HEARTBEAT then Some kinds.Heartbeat
    else None))))))

-- the least and the greatest stream that a frame of the kind may name
abbrev pub streams_of : Kind → ℕ × ℕ
streams_of kinds.Heartbeat = (0, 0)
streams_of _ = (1, 2 ^ 32 - 1)
