-- What reading the bytes behind a message's length gives.
use Rattle.std.specs.Prelude.{◌≡◌, List, ℕ, Option, Some, None}
use Rattle.agent_proto.specs.Messages.{IsMessage, body}
use Rattle.agent_proto.specs.declared.message.Message.{Message}

-- the message whose bytes they are behind its length, or none where there is no such message
abbrev pub ReadsBody : List ℕ → Option Message → Type 0
ReadsBody bytes (Some message) = IsMessage message × (bytes ≡ body message)
ReadsBody bytes None = (message : Message) → IsMessage message → bytes ≡ body message → ⊥
