-- What a reader of frames knows, and what one piece of the stream makes of it.
use Rattle.std.specs.Prelude.{◌≡◌, ℕ, ◌+◌, ◌-◌, ◌^◌, min, List, [], ◌∷◌, ◌++◌, length, drop, Option, Some, None}
use Rattle.std.specs.List.{flat_map}
use Rattle.mux_frames.specs.declared.frame.MuxFrame.{MuxFrame}
use Rattle.mux_frames.specs.declared.batch.Batch.{Batch}
use Rattle.mux_frames.specs.declared.batch.Batch.TheVariants as batches
use Rattle.mux_frames.specs.Prefix.{IsFault}
use Rattle.mux_frames.specs.Streams.{stream_of, IsStream, Splits}

-- A reader: how many bytes the frames had that it has answered, the bytes that it holds back, and
-- where the stream went wrong, if it did.
pub record Reading : Type 0 where
  pub taken : ℕ
  pub held : List ℕ
  pub bad : Option ℕ

-- a reader that has read nothing
abbrev pub fresh : Reading
fresh = record { taken = 0; held = []; bad = None }

-- a place as a u64: the last one stands for each from there on
abbrev pub counted : ℕ → ℕ
counted place = min place (2 ^ 64 - 1)

-- the piece completes these frames
pub record Reads (old : Reading) (piece : List ℕ) (frames : List MuxFrame) (new : Reading) : Type 0 where
  pub was_sound : old.bad ≡ None
  pub splits : Splits (old.held ++ piece) frames new.held
  pub taken : new.taken ≡ counted (old.taken + length (stream_of frames))
  pub sound : new.bad ≡ None

-- in the piece stands the first byte with which no frame continues what came before
pub record Refuses (old : Reading) (piece : List ℕ) (place : ℕ) (new : Reading) : Type 0 where
  pub was_sound : old.bad ≡ None
  pub offset : ℕ
  pub fault : IsFault IsStream (old.held ++ piece) offset
  pub place_is : place ≡ counted (old.taken + offset)
  pub new_is : new ≡ record old { bad = Some place }

-- a run of a reader: its pieces with the frames that each completed
abbrev pub Runs : Reading → List (List ℕ × List MuxFrame) → Reading → Type 0
Runs start [] end = end ≡ start
Runs start (step ∷ steps) end = (next : Reading) × Reads start step.0 step.1 next × Runs next steps end

-- the bytes that were fed, and the frames that were answered
abbrev pub fed : List (List ℕ × List MuxFrame) → List ℕ
fed steps = flat_map (λ step. step.0) steps

abbrev pub answered : List (List ℕ × List MuxFrame) → List MuxFrame
answered steps = flat_map (λ step. step.1) steps

-- what was found in some bytes: whole frames and how many bytes they have, or a fault
abbrev pub Finds : List ℕ → Batch → Type 0
Finds bytes (batches.Whole frames used) = Splits bytes frames.items (drop used bytes) × (used ≡ length (stream_of frames.items))
Finds bytes (batches.Bad place) = IsFault IsStream bytes place

-- the stream has its fault at this place, as a u64
abbrev pub FaultsAt : List ℕ → ℕ → Type 0
FaultsAt bytes place = (at : ℕ) × IsFault IsStream bytes at × (place ≡ counted at)

-- Behind what a reader holds back the piece has the first byte with which no frame continues what came
-- before, at this place.
abbrev pub FaultsAfter : Reading → List ℕ → ℕ → Type 0
FaultsAfter r piece place = (offset : ℕ) × IsFault IsStream (r.held ++ piece) offset × (place ≡ counted (r.taken + offset))
