-- What the calls of an end's user answer and leave: each is the step of `mux_core`, and want of memory
-- changes nothing. No call answers what isn't named here, a broken rule of the two ends among it.
use Rattle.std.specs.Prelude.{◌≡◌, ℕ, ◌<◌, true, false, List, [], Some, Ok, Err}
use Rattle.std.specs.FinMap as map
use Rattle.mux_core.specs.declared.answer.ReadAnswer.TheVariants as answers
use Rattle.mux_core.specs.declared.error.MuxError.TheVariants as errors
use Rattle.mux_core.specs.declared.error.OpenError.TheVariants as opening
use Rattle.mux_core.specs.declared.stream.Stream.{Stream}
use Rattle.mux_core.specs.Ends.{End}
use Rattle.mux_core.specs.Calls.{open_step, write_step, read_step, close_write_step, close_step}
use Rattle.mux_link.specs.declared.reply.LinkReply.{LinkReply}
use Rattle.mux_link.specs.declared.reply.LinkReply.TheVariants as replies

-- a stream is opened, unless the link was cut
abbrev pub Opens : End → LinkReply → End → Type 0
Opens e (replies.Opened number) after = (e.is_cut ≡ false) × (open_step e ≡ (Ok number, after))
Opens e (replies.StreamsFull live) after = (e.is_cut ≡ false) × (open_step e ≡ (Err (opening.StreamsFull live), after))
Opens e replies.Cut after = (e.is_cut ≡ true) × (after ≡ e)
Opens e replies.NoMemory after = after ≡ e
Opens e _ after = ⊥

-- bytes are written; none are accepted as 0 of them
abbrev pub Writes : End → ℕ → List ℕ → LinkReply → End → Type 0
Writes e stream bytes (replies.Wrote count) after = write_step e stream bytes ≡ (Ok count, after)
Writes e stream bytes replies.NoStream after = write_step e stream bytes ≡ (Err errors.NoStream, after)
Writes e stream bytes replies.WriteClosed after = write_step e stream bytes ≡ (Err errors.WriteClosed, after)
Writes e stream bytes replies.NoMemory after = after ≡ e
Writes e stream bytes _ after = ⊥

-- the stream is live
abbrev pub IsLive : End → ℕ → Type 0
IsLive e stream = (s : Stream) × (map.get e.streams stream ≡ Some s)

-- bytes are read; a read of at most 0 gets none, where the stream is live, and changes nothing
abbrev pub Reads : End → ℕ → ℕ → LinkReply → End → Type 0
Reads e stream most (replies.Read answer) after = (0 < most → read_step e stream most ≡ (Ok answer, after)) × (most ≡ 0 → IsLive e stream × (answer ≡ answers.Got []) × (after ≡ e))
Reads e stream most replies.NoStream after = read_step e stream most ≡ (Err errors.NoStream, after)
Reads e stream most replies.NoMemory after = (0 < most) × (after ≡ e)
Reads e stream most _ after = ⊥

-- writing is ended
abbrev pub EndsWriting : End → ℕ → LinkReply → End → Type 0
EndsWriting e stream replies.Done after = close_write_step e stream ≡ (Ok tt, after)
EndsWriting e stream replies.NoStream after = close_write_step e stream ≡ (Err errors.NoStream, after)
EndsWriting e stream replies.WriteClosed after = close_write_step e stream ≡ (Err errors.WriteClosed, after)
EndsWriting e stream replies.NoMemory after = after ≡ e
EndsWriting e stream _ after = ⊥

-- the stream is closed
abbrev pub Closes : End → ℕ → LinkReply → End → Type 0
Closes e stream replies.Done after = close_step e stream ≡ (Ok tt, after)
Closes e stream replies.NoStream after = close_step e stream ≡ (Err errors.NoStream, after)
Closes e stream replies.NoMemory after = after ≡ e
Closes e stream _ after = ⊥
