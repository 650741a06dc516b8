-- Two ends that are joined, and what may happen to them.
use Rattle.std.specs.Prelude.{◌≡◌, ℕ, ◌<◌, min, true, false, List, [], ◌∷◌, length, take, Result, Ok, Err}
use Rattle.mux_frames.specs.declared.frame.MuxFrame.{MuxFrame}
use Rattle.mux_frames.specs.Readers.{Reading, Reads, Refuses, fresh}
use Rattle.mux_core.specs.declared.answer.ReadAnswer.{ReadAnswer}
use Rattle.mux_core.specs.declared.error.MuxError.{MuxError}
use Rattle.mux_core.specs.declared.error.OpenError.{OpenError}
use Rattle.mux_core.specs.Ends.{End, fresh_end, cut_off}
use Rattle.mux_core.specs.Calls.{open_step, write_step, read_step, close_write_step, close_step, taken_out}
use Rattle.mux_core.specs.Arrivals.{frame_step}

pub data Side : Type 0 where
  Near : Side
  Far : Side

abbrev pub other : Side → Side
other Near = Far
other Far = Near

-- What may happen. A move takes so many of the bytes that wait at a side, or all of them, to the other
-- end. Each end learns by itself that the link was cut.
pub data Event : Type 0 where
  Open : Event
  Write : (side : Side) (stream : ℕ) (bytes : List ℕ) → Event
  Read : (side : Side) (stream most : ℕ) → Event
  CloseWrite : (side : Side) (stream : ℕ) → Event
  Close : (side : Side) (stream : ℕ) → Event
  Move : (side : Side) (count : ℕ) → Event
  Cut : (side : Side) → Event

-- What was answered: by a call, by an end to the frames that a move completed, or by a reader to
-- bytes that no frame continues.
pub data Reply : Type 0 where
  Opened : (answer : Result ℕ OpenError) → Reply
  Wrote : (answer : Result ℕ MuxError) → Reply
  Answered : (answer : Result ReadAnswer MuxError) → Reply
  Done : (answer : Result Unit MuxError) → Reply
  Moved : (answer : Result Unit MuxError) → Reply
  BadFrame : (place : ℕ) → Reply
  WasCut : Reply

-- an end, and the reader of the bytes that come to it
pub record Post : Type 0 where
  pub end : End
  pub reader : Reading

pub record World : Type 0 where
  pub near : Post
  pub far : Post

-- two ends whose streams are numbered behind this number, before anything happens
abbrev pub fresh_world : ℕ → World
fresh_world last = record { near = record { end = fresh_end true last; reader = fresh }; far = record { end = fresh_end false last; reader = fresh } }

abbrev pub at : World → Side → Post
at w Near = w.near
at w Far = w.far

-- the posts of a side and of the other side
abbrev pub posts : Side → Post → Post → World
posts Near here there = record { near = here; far = there }
posts Far here there = record { near = there; far = here }

-- the end of a side is another
abbrev pub with_end : World → Side → End → World
with_end w side e = posts side (record { end = e; reader = (at w side).reader }) (at w (other side))

-- the frames come to an end, one behind the other, up to one that it refuses
abbrev pub takes : Result Unit MuxError × End → List MuxFrame → Result Unit MuxError × End
takes (Err error, e) frames = (Err error, e)
takes (Ok done, e) [] = (Ok done, e)
takes (Ok done, e) (frame ∷ frames) = takes (frame_step e frame) frames

-- the bytes that a move takes
abbrev pub front : End → ℕ → List ℕ
front e count = take (min count (length e.waiting)) e.waiting

abbrev pub without_front : End → ℕ → End
without_front e count = taken_out e (min count (length e.waiting))

-- the other end's reader completes frames, which come to that end
pub record Hands (from to : Post) (count : ℕ) (answer : Result Unit MuxError) (from_after to_after : Post) : Type 0 where
  pub frames : List MuxFrame
  pub reads : Reads to.reader (front from.end count) frames to_after.reader
  pub came : takes (Ok tt, to.end) frames ≡ (answer, to_after.end)
  pub sent : from_after ≡ record { end = without_front from.end count; reader = from.reader }

-- the other end's reader refuses the bytes
pub record Fails (from to : Post) (count place : ℕ) (from_after to_after : Post) : Type 0 where
  pub refuses : Refuses to.reader (front from.end count) place to_after.reader
  pub kept : to_after.end ≡ to.end
  pub sent : from_after ≡ record { end = without_front from.end count; reader = from.reader }

-- Where this happens in a world, this is answered, and that world comes of it. Each call is the step
-- that its contract names, under the conditions that it has. Bytes are moved while neither end is cut.
abbrev pub Happens : World → Event → Reply → World → Type 0
Happens w Open (Opened answer) v = (w.near.end.is_cut ≡ false) × (answer ≡ (open_step w.near.end).0) × (v ≡ with_end w Near (open_step w.near.end).1)
Happens w (Write side stream bytes) (Wrote answer) v = (answer ≡ (write_step (at w side).end stream bytes).0) × (v ≡ with_end w side (write_step (at w side).end stream bytes).1)
Happens w (Read side stream most) (Answered answer) v =
    (0 < most) × (answer ≡ (read_step (at w side).end stream most).0) × (v ≡ with_end w side (read_step (at w side).end stream most).1)
Happens w (CloseWrite side stream) (Done answer) v = (answer ≡ (close_write_step (at w side).end stream).0) × (v ≡ with_end w side (close_write_step (at w side).end stream).1)
Happens w (Close side stream) (Done answer) v = (answer ≡ (close_step (at w side).end stream).0) × (v ≡ with_end w side (close_step (at w side).end stream).1)
Happens w (Move side count) (Moved answer) v =
    ((at w side).end.is_cut ≡ false) × ((at w (other side)).end.is_cut ≡ false) × Hands (at w side) (at w (other side)) count answer (at v side) (at v (other side))
Happens w (Move side count) (BadFrame place) v =
    ((at w side).end.is_cut ≡ false) × ((at w (other side)).end.is_cut ≡ false) × Fails (at w side) (at w (other side)) count place (at v side) (at v (other side))
Happens w (Cut side) WasCut v = v ≡ with_end w side (cut_off (at w side).end)
Happens w _ _ v = ⊥

-- a whole schedule: what happened, with what was answered
abbrev pub Runs : World → List (Event × Reply) → World → Type 0
Runs w [] v = v ≡ w
Runs w (step ∷ steps) v = (next : World) × Happens w step.0 step.1 next × Runs next steps v
