-- The calls of an end's user, each a step that gives the answer and the new end.
use Rattle.std.specs.Prelude.{ℕ, zero, suc, ◌+◌, ◌-◌, ◌/◌, min, true, false, ◌||◌, not, ◌==◌, nat_le, if◌then◌else◌, List, [], ◌∷◌, ◌++◌, length, take, drop, Option, Some, None, Result, Ok, Err}
use Rattle.std.specs.FinMap as map
use Rattle.mux_frames.specs.declared.wire.TheConstants.{MAX_PAYLOAD}
use Rattle.mux_frames.specs.declared.frame.MuxFrame.{MuxFrame}
use Rattle.mux_frames.specs.declared.frame.MuxFrame.TheVariants as frames
use Rattle.mux_frames.specs.Streams.{stream_of}
use Rattle.mux_core.specs.declared.answer.ReadAnswer.{ReadAnswer}
use Rattle.mux_core.specs.declared.answer.ReadAnswer.TheVariants as answers
use Rattle.mux_core.specs.declared.error.MuxError.{MuxError}
use Rattle.mux_core.specs.declared.error.MuxError.TheVariants as errors
use Rattle.mux_core.specs.declared.error.OpenError.{OpenError}
use Rattle.mux_core.specs.declared.error.OpenError.TheVariants as opening
use Rattle.mux_core.specs.declared.opening.TheConstants.{MAX_LIVE}
use Rattle.mux_core.specs.declared.stream.Stream.{Stream}
use Rattle.mux_core.specs.Streams.{is_writable, with_state, with_buffer}
use Rattle.mux_core.specs.Ends.{End, tells, with_streams, opened}

-- the greatest number of a stream
abbrev pub last_number : ℕ
last_number = 4294967295

-- a stream is opened with the number after the last, unless too many are live or the last number was given
abbrev pub open_step : End → Result ℕ OpenError × End
open_step e =
    if nat_le MAX_LIVE (map.len e.streams) || e.last == last_number
    then (Err (opening.StreamsFull (min (map.len e.streams) MAX_LIVE)), e)
    else (Ok (e.last + 1), opened e (e.last + 1) false (frames.OpenStream (e.last + 1)))

-- the stream is set to s
abbrev pub set : End → ℕ → Stream → End
set e stream s = with_streams e (map.insert e.streams stream s)

-- the stream isn't live any more
abbrev pub dropped : End → ℕ → End
dropped e stream = with_streams e (map.remove e.streams stream)

-- Data frames of the bytes: so many, each of 16,384 bytes and the last of what is left
abbrev pub frames_in : ℕ → ℕ → List ℕ → List MuxFrame
frames_in zero stream bytes = []
frames_in (suc count) stream bytes = frames.Payload stream (take MAX_PAYLOAD bytes) ∷ frames_in count stream (drop MAX_PAYLOAD bytes)

-- how many Data frames carry so many bytes
abbrev pub frame_count : ℕ → ℕ
frame_count size = (size + (MAX_PAYLOAD - 1)) / MAX_PAYLOAD

abbrev pub data_frames : ℕ → List ℕ → List MuxFrame
data_frames stream bytes = frames_in (frame_count (length bytes)) stream bytes

-- these bytes are accepted: they lower the credit, and their Data frames wait to go out
abbrev pub accepts : End → ℕ → Stream → List ℕ → End
accepts e stream s bytes =
    record e {
      streams = map.insert e.streams stream (with_state (record s.state { credit = s.state.credit - length bytes }) s);
      waiting = e.waiting ++ stream_of (data_frames stream bytes);
    }

abbrev pub write_live : End → ℕ → List ℕ → Option Stream → Result ℕ MuxError × End
write_live e stream bytes None = (Err errors.NoStream, e)
write_live e stream bytes (Some s) =
    if e.is_cut || not (is_writable s.state)
    then (Err errors.WriteClosed, e)
    else (Ok (min (length bytes) s.state.credit), accepts e stream s (take (min (length bytes) s.state.credit) bytes))

-- as many of the bytes are accepted as the credit allows
abbrev pub write_step : End → ℕ → List ℕ → Result ℕ MuxError × End
write_step e stream bytes = write_live e stream bytes (map.get e.streams stream)

-- what is answered where nothing is buffered: the end of the other's writing comes before a Close or a cut
abbrev pub read_drained : End → ℕ → Stream → ReadAnswer × End
read_drained e stream s =
    if s.state.read_ended
    then (answers.End, if s.state.write_ended then dropped e stream else set e stream (with_state (record s.state { end_read = true }) s))
    else (if s.state.closed || e.is_cut then (answers.Broken, dropped e stream) else (answers.Empty, e))

-- so many bytes are taken, and the other end is told of it
abbrev pub read_bytes : End → ℕ → Stream → ℕ → ReadAnswer × End
read_bytes e stream s count = (answers.Got (take count s.buffer), set (tells e (frames.Window stream count)) stream (with_buffer (drop count s.buffer) s))

abbrev pub read_live : End → ℕ → ℕ → Option Stream → Result ReadAnswer MuxError × End
read_live e stream most None = (Err errors.NoStream, e)
read_live e stream most (Some s) =
    let count = min most (length s.buffer) in
    let read = if count == 0 then read_drained e stream s else read_bytes e stream s count in
    (Ok read.0, read.1)

-- a read takes the lesser of what is buffered and the number asked
abbrev pub read_step : End → ℕ → ℕ → Result ReadAnswer MuxError × End
read_step e stream most = read_live e stream most (map.get e.streams stream)

abbrev pub credit_in : Option Stream → Option ℕ
credit_in None = None
credit_in (Some s) = Some s.state.credit

-- this end's writing has ended; where the other's end was read already, the stream is done
abbrev pub ends_writing : End → ℕ → Stream → End
ends_writing e stream s = if s.state.end_read then dropped e stream else set e stream (with_state (record s.state { write_ended = true }) s)

abbrev pub close_write_live : End → ℕ → Option Stream → Result Unit MuxError × End
close_write_live e stream None = (Err errors.NoStream, e)
close_write_live e stream (Some s) =
    if e.is_cut || not (is_writable s.state)
    then (Err errors.WriteClosed, e)
    else (Ok tt, ends_writing (tells e (frames.CloseWrite stream)) stream s)

-- the end of this end's writing stands behind all accepted bytes
abbrev pub close_write_step : End → ℕ → Result Unit MuxError × End
close_write_step e stream = close_write_live e stream (map.get e.streams stream)

abbrev pub close_live : End → ℕ → Option Stream → Result Unit MuxError × End
close_live e stream None = (Err errors.NoStream, e)
close_live e stream (Some s) = (Ok tt, dropped (tells e (frames.Close stream)) stream)

-- the stream ends here, and its buffer is dropped
abbrev pub close_step : End → ℕ → Result Unit MuxError × End
close_step e stream = close_live e stream (map.get e.streams stream)

-- so many of the waiting bytes are taken, from the front
abbrev pub taken_out : End → ℕ → End
taken_out e count = record e { waiting = drop count e.waiting }
