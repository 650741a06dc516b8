-- A word that is cut at the first place where a byte stands.
use Rattle.std.specs.Prelude.{◌≡◌, ℕ, Bool, true, not, ◌==◌, List, ◌∷◌, ◌++◌}
use Rattle.std.specs.List.{list_all}

-- the byte doesn't stand in the word
abbrev pub has_no : ℕ → List ℕ → Bool
has_no b word = list_all (λ c. not (c == b)) word

-- what stands before the first such byte, and what stands behind it
pub record IsCut (b : ℕ) (word front back : List ℕ) : Type 0 where
  pub all : word ≡ front ++ b ∷ back
  pub first : has_no b front ≡ true
