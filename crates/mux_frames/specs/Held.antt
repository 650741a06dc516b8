-- The bytes that a reader holds back.
use Rattle.std.specs.Prelude.{ℕ, List, [], Option, Some, None}
use Rattle.std.specs.Global.{Vec}

-- none, or those of the buffer
abbrev pub held_bytes : Option (Vec ℕ) → List ℕ
held_bytes None = []
held_bytes (Some bytes) = bytes.items
