-- The bytes that a reader holds back. Those of a file, or of a part of one, stand apart from what is before them.
use Rattle.std.specs.Prelude.{◌≡◌, ◌⊎◌, ℕ, Bool, ◌&&◌, ◌==◌, ◌<◌, ◌≤◌, ⊤, List, [], ◌++◌, length, get_or, take, drop, Option, Some, None, IsTrue}
use Rattle.agent_proto.specs.declared.held.Held.{Held}
use Rattle.agent_proto.specs.declared.wire.TheConstants.{KIND_STAGE_APPEND, KIND_PIECE}

-- the bytes that are held of one message
abbrev pub all_held : Held → List ℕ
all_held held = held.front.items ++ held.content.items

-- none, or those of a message that isn't whole
abbrev pub held_bytes : Option Held → List ℕ
held_bytes None = []
held_bytes (Some held) = all_held held

-- a length, the kind of a request to stage bytes, who asks, and the number of the bytes
abbrev pub is_append : List ℕ → Bool
is_append front = (length front == 37) && (get_or front 4 0 == KIND_STAGE_APPEND)

-- a length, the kind of a piece, and the number of its bytes
abbrev pub is_piece : List ℕ → Bool
is_piece front = (length front == 9) && (get_or front 4 0 == KIND_PIECE)

-- these bytes end where the content of a message begins
abbrev pub IsParted : List ℕ → Type 0
IsParted front = IsTrue (is_append front) ⊎ IsTrue (is_piece front)

-- bytes stand apart only where the content of a message begins
abbrev pub IsHeld : Held → Type 0
IsHeld held = (held.content.items ≡ []) ⊎ IsParted held.front.items

abbrev pub AreHeld : Option Held → Type 0
AreHeld None = ⊤
AreHeld (Some held) = IsHeld held

-- so many of the bytes belong to what stands before the content
abbrev pub Cuts : List ℕ → List ℕ → ℕ → Type 0
Cuts front bytes cut = (cut ≤ length bytes) × (cut < length bytes → IsParted (front ++ take cut bytes))

-- the bytes stand behind the others
pub record Appends (old : Held) (bytes : List ℕ) (new : Held) : Type 0 where
  pub cut : ℕ
  pub front : new.front.items ≡ old.front.items ++ take cut bytes
  pub content : new.content.items ≡ old.content.items ++ drop cut bytes
  pub all : all_held new ≡ all_held old ++ bytes
  pub held : IsHeld new

-- no byte has changed
abbrev pub IsSame : Held → Held → Type 0
IsSame old new = (new.front.items ≡ old.front.items) × (new.content.items ≡ old.content.items)
