-- The frames that come: which an end accepts, and what each makes of it.
use Rattle.std.specs.Prelude.{ℕ, ◌+◌, Bool, true, ◌&&◌, not, ◌==◌, nat_le, nat_lt, if◌then◌else◌, ◌++◌, length, Option, Some, None, Result, Ok, Err}
use Rattle.std.specs.FinMap as map
use Rattle.mux_frames.specs.declared.frame.MuxFrame.{MuxFrame}
use Rattle.mux_frames.specs.declared.frame.MuxFrame.TheVariants.{OpenStream, Accept, Payload, Window, CloseWrite, Close, Heartbeat}
use Rattle.mux_core.specs.declared.error.MuxError.{MuxError}
use Rattle.mux_core.specs.declared.error.MuxError.TheVariants as errors
use Rattle.mux_core.specs.declared.stream.StreamState.{StreamState}
use Rattle.mux_core.specs.declared.stream.Stream.{Stream}
use Rattle.mux_core.specs.Streams.{changed, with_state, with_buffer, is_readable, has_room, has_credit_room}
use Rattle.mux_core.specs.Ends.{End, with_streams, opened}

-- a stream of this number was opened at this end
abbrev pub was_opened : End → ℕ → Bool
was_opened e stream = nat_lt e.start stream && nat_le stream e.last

-- a test of the stream where it is live; a frame for one that isn't is ignored
abbrev pub if_live : Option Stream → (Stream → Bool) → Bool
if_live None test = true
if_live (Some s) test = test s

-- an Accept may come of a stream that none came of
abbrev pub allows_accept : End → ℕ → Bool
allows_accept e stream = was_opened e stream && if_live (map.get e.streams stream) (λ s. not s.state.accepted)

-- the other end may still write so many bytes, and they fit behind what is buffered
abbrev pub allows_data : End → ℕ → ℕ → Bool
allows_data e stream size = was_opened e stream && if_live (map.get e.streams stream) (λ s. has_room s size)

-- a credit stays at 65,536 at most
abbrev pub allows_window : End → ℕ → ℕ → Bool
allows_window e stream amount = was_opened e stream && if_live (map.get e.streams stream) (λ s. has_credit_room s.state amount)

-- a CloseWrite may come of a stream that the other end may still write
abbrev pub allows_end : End → ℕ → Bool
allows_end e stream = was_opened e stream && if_live (map.get e.streams stream) (λ s. is_readable s.state)

-- The frame breaks no rule. Only the far end takes an Open, with the next number, and only the near
-- end an Accept; no other frame may come of a stream that was never opened.
abbrev pub allows : End → MuxFrame → Bool
allows e (OpenStream stream) = not e.near && (stream == e.last + 1)
allows e (Accept stream) = e.near && allows_accept e stream
allows e (Payload stream bytes) = allows_data e stream (length bytes)
allows e (Window stream amount) = allows_window e stream amount
allows e (CloseWrite stream) = allows_end e stream
allows e (Close stream) = was_opened e stream
allows e Heartbeat = true

-- the end with this stream changed, where it is live
abbrev pub changes : End → ℕ → (Stream → Stream) → End
changes e stream change = with_streams e (changed e.streams stream change)

abbrev pub changes_state : End → ℕ → (StreamState → StreamState) → End
changes_state e stream change = changes e stream (λ s. with_state (change s.state) s)

-- what a frame that breaks no rule makes of the end
abbrev pub after_frame : End → MuxFrame → End
after_frame e (OpenStream stream) = opened e stream true (Accept stream)
after_frame e (Accept stream) = changes_state e stream (λ state. record state { accepted = true })
after_frame e (Payload stream bytes) = changes e stream (λ s. with_buffer (s.buffer ++ bytes) s)
after_frame e (Window stream amount) = changes_state e stream (λ state. record state { credit = state.credit + amount })
after_frame e (CloseWrite stream) = changes_state e stream (λ state. record state { read_ended = true })
after_frame e (Close stream) = changes_state e stream (λ state. record state { closed = true })
after_frame e Heartbeat = e

-- a frame comes
abbrev pub frame_step : End → MuxFrame → Result Unit MuxError × End
frame_step e frame = if allows e frame then (Ok tt, after_frame e frame) else (Err (errors.Protocol frame), e)
