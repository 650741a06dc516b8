-- A queue of bytes in pieces.
use Rattle.std.specs.Prelude.{ℕ, List}

-- the bytes, and for how many pieces more there is room
pub record Queue : Type 0 where
  pub bytes : List ℕ
  pub room : ℕ
