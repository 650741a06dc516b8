-- The laws of two ends that are joined, over every run.
use Rattle.std.specs.Prelude.{◌≡◌, ℕ, ◌+◌, ◌<◌, ◌^◌, true, false, List, ◌++◌, length, Some, Ok, Err}
use Rattle.std.specs.List.{AllByRecursion}
use Rattle.std.specs.FinMap as map
use Rattle.mux_frames.specs.declared.frame.MuxFrame.{MuxFrame}
use Rattle.mux_core.specs.declared.answer.ReadAnswer.TheVariants as answers
use Rattle.mux_core.specs.declared.stream.TheConstants.{WINDOW}
use Rattle.mux_core.specs.declared.stream.Stream.{Stream}
use Rattle.mux_core.specs.Worlds.{Side, other, Event, Read, Move, Reply, Answered, Moved, BadFrame, World, fresh_world, at, Happens, Runs}
use Rattle.mux_core.specs.Histories.{sent, delivered, has_ended, has_closed}
use Rattle.mux_core.specs.Links.{payloads, windows, Carries, buffered_in}

-- Two ends that were made with the same number came to this world by these steps.
abbrev pub Reaches : List (Event × Reply) → World → Type 0
Reaches steps w = (last : ℕ) × (last < 2 ^ 32) × Runs (fresh_world last) steps w

abbrev pub IsPrefix : List ℕ → List ℕ → Type 0
IsPrefix xs ys = (rest : List ℕ) × (xs ++ rest ≡ ys)

-- what one side read of a stream is what the other side's writes began with
abbrev pub IsInOrder : List (Event × Reply) → Type 0
IsInOrder steps = (side : Side) (n : ℕ) → IsPrefix (delivered side n steps) (sent (other side) n steps)

abbrev pub DeliversInOrder : Type 0
DeliversInOrder = (steps : List (Event × Reply)) (w : World) → Reaches steps w → IsInOrder steps

-- Until the other side is cut, while a side has the stream: what it read, then what is buffered, then
-- what the link carries are all that was accepted.
abbrev pub IsAllThere : List (Event × Reply) → World → Type 0
IsAllThere steps w = (side : Side) (n : ℕ) (s : Stream) → (at w (other side)).end.is_cut ≡ false → map.get (at w side).end.streams n ≡ Some s
    → (frames : List MuxFrame) → Carries (at w (other side)) (at w side) frames
    → delivered side n steps ++ (s.buffer ++ payloads n frames) ≡ sent (other side) n steps

abbrev pub LosesNothing : Type 0
LosesNothing = (steps : List (Event × Reply)) (w : World) → Reaches steps w → IsAllThere steps w

-- the other side ended its writing on a stream, and all that it wrote was read
abbrev pub IsReadToTheEnd : List (Event × Reply) → Side → ℕ → Type 0
IsReadToTheEnd steps side n = (delivered side n steps ≡ sent (other side) n steps) × (has_ended (other side) n steps ≡ true)

-- where a read answers End, that is so
abbrev pub EndsAtTheEnd : Type 0
EndsAtTheEnd = (steps : List (Event × Reply)) (w v : World) → Reaches steps w
    → (side : Side) (n most : ℕ) → Happens w (Read side n most) (Answered (Ok answers.End)) v → IsReadToTheEnd steps side n

-- Until a side is cut, where one has the stream and the other didn't close it: the one's credit, its
-- bytes on the link, those buffered at the other and the amounts that come back add up to 65,536.
abbrev pub IsInBalance : List (Event × Reply) → World → Type 0
IsInBalance steps w = (side : Side) (n : ℕ) (s : Stream) → (at w side).end.is_cut ≡ false → (at w (other side)).end.is_cut ≡ false → map.get (at w side).end.streams n ≡ Some s
    → has_closed (other side) n steps ≡ false
    → (there back : List MuxFrame) → Carries (at w side) (at w (other side)) there → Carries (at w (other side)) (at w side) back
    → s.state.credit + length (payloads n there) + length (buffered_in (map.get (at w (other side)).end.streams n)) + windows n back ≡ WINDOW

abbrev pub CreditsAddUp : Type 0
CreditsAddUp = (steps : List (Event × Reply)) (w : World) → Reaches steps w → IsInBalance steps w

-- until a side is cut its link carries whole frames, the first of which may have come in part
abbrev pub IsWhole : World → Type 0
IsWhole w = (side : Side) → (at w side).end.is_cut ≡ false → (frames : List MuxFrame) × Carries (at w side) (at w (other side)) frames

abbrev pub CarriesFrames : Type 0
CarriesFrames = (steps : List (Event × Reply)) (w : World) → Reaches steps w → IsWhole w

-- While neither side is cut, any number of bytes can be moved from one to the other: the reader takes
-- them, and the end takes each frame that they complete.
abbrev pub MovesOn : Type 0
MovesOn = (steps : List (Event × Reply)) (w : World) → Reaches steps w
    → (side : Side) (count : ℕ) → (at w side).end.is_cut ≡ false → (at w (other side)).end.is_cut ≡ false → (v : World) × Happens w (Move side count) (Moved (Ok tt)) v

-- the answer of an end and a reader that refused nothing
abbrev pub IsAccepted : Reply → Type 0
IsAccepted (Moved (Ok done)) = Unit {0}
IsAccepted (Moved (Err error)) = ⊥
IsAccepted (BadFrame place) = ⊥
IsAccepted _ = Unit {0}

-- neither end refuses a frame of the other, and neither reader its bytes
abbrev pub AcceptsAll : Type 0
AcceptsAll = (steps : List (Event × Reply)) (w : World) → Reaches steps w → AllByRecursion (λ step. IsAccepted step.1) steps
