-- The messages at the front of some bytes, and what a piece makes of the bytes that are held back.
use Rattle.std.specs.Prelude.{◌≡◌, ℕ, ◌≤◌, List, ◌++◌, length, take, drop}
use Rattle.mux_frames.specs.Prefix.{IsFault}
use Rattle.agent_proto.specs.declared.batch.Batch.{Batch}
use Rattle.agent_proto.specs.declared.batch.Batch.TheVariants as batches
use Rattle.agent_proto.specs.declared.message.Message.{Message}
use Rattle.agent_proto.specs.declared.reader.Intake.{Intake}
use Rattle.agent_proto.specs.declared.reader.Intake.TheVariants as intakes
use Rattle.agent_proto.specs.Messages.{spelling}
use Rattle.agent_proto.specs.Follows.{Follows}
use Rattle.agent_proto.specs.Streams.{IsSent, AreSent, stream_of, IsStream, Splits}

-- these bytes are that message
abbrev pub IsSpelt : List ℕ → Message → Type 0
IsSpelt bytes message = IsSent message × (bytes ≡ spelling message)

-- the bytes begin with these messages, which take so many bytes
pub record Found (bytes : List ℕ) (messages : List Message) (used : ℕ) : Type 0 where
  pub within : used ≤ length bytes
  pub front : take used bytes ≡ stream_of messages
  pub each : AreSent messages

-- The same, where the messages stand behind those that were there.
pub record Added (start : List Message) (bytes : List ℕ) (messages : List Message) (used : ℕ) : Type 0 where
  pub more : List Message
  pub found : Found bytes more used
  pub items : messages ≡ start ++ more

-- what was found in some bytes: whole messages behind those that were there, or a fault
abbrev pub Finds : List Message → List ℕ → Batch → Type 0
Finds start bytes (batches.Whole messages used place) = Added start bytes messages.items used × Follows (drop used bytes) place
Finds start bytes (batches.Bad at) = IsFault IsStream bytes at

-- what a piece makes of the bytes that are held back: whole messages and what is held back now, or a fault
abbrev pub TakesIn : List ℕ → List ℕ → List ℕ → Intake → Type 0
TakesIn old piece new (intakes.Read messages used place) = Splits (old ++ piece) messages.items new × (used ≡ length (stream_of messages.items)) × Follows new place
TakesIn old piece new (intakes.Bad offset) = IsFault IsStream (old ++ piece) offset × (new ≡ old)
