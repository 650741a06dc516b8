-- A source in memory.
use Rattle.std.specs.Prelude.{ℕ, ◌<◌, ◌==◌, if◌then◌else◌, List, [], ◌∷◌, length, drop, All}
use Rattle.outside_io.specs.Calls.{Calls}

-- the pieces that it still gives, in order, the calls that are to fail, and how many faults there were
pub record MemInput : Type 0 where
  pub pieces : List (List ℕ)
  pub calls : Calls
  pub faults : ℕ

abbrev pub HasNoEmpty : List (List ℕ) → Type 0
HasNoEmpty pieces = All (λ piece. 0 < length piece) pieces

-- the first piece, or nothing where there is none
abbrev pub first_piece : List (List ℕ) → List ℕ
first_piece [] = []
first_piece (piece ∷ pieces) = piece

-- the pieces without the first n bytes of the first one, which goes once nothing is left of it
abbrev pub after_taking : ℕ → List (List ℕ) → List (List ℕ)
after_taking n [] = []
after_taking n (piece ∷ pieces) = if length piece == n then pieces else drop n piece ∷ pieces

-- the pieces without the first n bytes of the first one
abbrev pub without_front : ℕ → List (List ℕ) → List (List ℕ)
without_front n [] = []
without_front n (piece ∷ pieces) = drop n piece ∷ pieces
