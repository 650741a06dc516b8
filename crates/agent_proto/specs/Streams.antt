-- A stream of messages, one behind the other.
use Rattle.std.specs.Prelude.{◌≡◌, ℕ, List, ◌++◌}
use Rattle.std.specs.List.{flat_map, AllByRecursion}
use Rattle.mux_frames.specs.Numbers.{AreBytes}
use Rattle.mux_frames.specs.Prefix.{Continues}
use Rattle.agent_proto.specs.Messages.{spelling, IsMessage}
use Rattle.agent_proto.specs.declared.message.Message.{Message}

-- a message that a connection can carry: each item of its spelling is a byte
pub record IsSent (message : Message) : Type 0 where
  pub sound : IsMessage message
  pub bytes : AreBytes (spelling message)

-- these bytes are a message
abbrev pub IsSpelling : List ℕ → Type 0
IsSpelling bytes = (message : Message) × IsSent message × (bytes ≡ spelling message)

-- the bytes of the messages, one behind the other
abbrev pub stream_of : List Message → List ℕ
stream_of messages = flat_map spelling messages

-- each of them is one
abbrev pub AreSent : List Message → Type 0
AreSent messages = AllByRecursion IsSent messages

-- these bytes are whole messages, one behind the other
abbrev pub IsStream : List ℕ → Type 0
IsStream bytes = (messages : List Message) × AreSent messages × (bytes ≡ stream_of messages)

-- The bytes are these messages, and then less than a whole one that some message continues. A message has its length among its bytes:
-- so one that continues them has the length that they state.
pub record Splits (bytes : List ℕ) (messages : List Message) (rest : List ℕ) : Type 0 where
  pub whole : bytes ≡ stream_of messages ++ rest
  pub each : AreSent messages
  pub partial : Continues IsSpelling rest

-- Of the messages that were sent these were read, and the others are the bytes that are held back and those still to come.
pub record IsFrontOf (sent read : List Message) (held more : List ℕ) : Type 0 where
  pub later : List Message
  pub each : AreSent later
  pub sent_is : sent ≡ read ++ later
  pub ahead : held ++ more ≡ stream_of later
