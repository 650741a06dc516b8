-- What a reader of messages knows, and what one piece of the stream makes of it.
use Rattle.std.specs.Prelude.{◌≡◌, ℕ, ◌+◌, List, [], ◌∷◌, ◌++◌, length, Some, None}
use Rattle.std.specs.List.{flat_map}
use Rattle.mux_frames.specs.Prefix.{IsFault}
use Rattle.mux_frames.specs.Readers.{Reading, counted}
use Rattle.agent_proto.specs.Streams.{stream_of, IsStream, Splits}
use Rattle.agent_proto.specs.declared.message.Message.{Message}

-- the piece completes these messages
pub record Reads (old : Reading) (piece : List ℕ) (messages : List Message) (new : Reading) : Type 0 where
  pub was_sound : old.bad ≡ None
  pub splits : Splits (old.held ++ piece) messages new.held
  pub taken : new.taken ≡ counted (old.taken + length (stream_of messages))
  pub sound : new.bad ≡ None

-- in the piece stands the first byte with which no message continues what came before
pub record Refuses (old : Reading) (piece : List ℕ) (place : ℕ) (new : Reading) : Type 0 where
  pub was_sound : old.bad ≡ None
  pub offset : ℕ
  pub fault : IsFault IsStream (old.held ++ piece) offset
  pub place_is : place ≡ counted (old.taken + offset)
  pub new_is : new ≡ record old { bad = Some place }

-- a run of a reader: its pieces with the messages that each completed
abbrev pub Runs : Reading → List (List ℕ × List Message) → Reading → Type 0
Runs start [] end = end ≡ start
Runs start (step ∷ steps) end = (next : Reading) × Reads start step.0 step.1 next × Runs next steps end

-- the bytes that were fed, and the messages that were answered
abbrev pub fed : List (List ℕ × List Message) → List ℕ
fed steps = flat_map (λ step. step.0) steps

abbrev pub answered : List (List ℕ × List Message) → List Message
answered steps = flat_map (λ step. step.1) steps

-- the stream has its fault at this place, as a u64
abbrev pub FaultsAt : List ℕ → ℕ → Type 0
FaultsAt bytes place = (at : ℕ) × IsFault IsStream bytes at × (place ≡ counted at)
