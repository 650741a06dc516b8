-- Bytes that begin a text of a language, and the first byte that doesn't.
use Rattle.std.specs.Prelude.{ℕ, ◌+◌, ◌<◌, List, ◌∷◌, ◌++◌, length, take}

-- some text of the language continues these bytes: it begins with them and has more
abbrev pub Continues : (List ℕ → Type 0) → List ℕ → Type 0
Continues IsText bytes = (next : ℕ) × (more : List ℕ) × IsText (bytes ++ next ∷ more)

-- the place of the first byte with which no text of the language begins
pub record IsFault (IsText : List ℕ → Type 0) (bytes : List ℕ) (place : ℕ) : Type 0 where
  pub within : place < length bytes
  pub before : Continues IsText (take place bytes)
  pub none : (more : List ℕ) → IsText (take (place + 1) bytes ++ more) → ⊥
