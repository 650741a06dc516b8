-- How many frames of sessions there are.
use Rattle.std.specs.Prelude.{◌≡◌, ℕ, ◌+◌, ◌==◌, Bool, false, List, [], ◌∷◌, length, Option, Some, None}
use Rattle.std.specs.List.{list_any}

-- whether an identifier is among these
abbrev pub has_id : ℕ → List ℕ → Bool
has_id id ids = list_any (λ i. i == id) ids

-- no two of these are the same
abbrev pub Differ : List ℕ → Type 0
Differ [] = Unit {0}
Differ (id ∷ ids) = (has_id id ids ≡ false) × Differ ids

-- how many frames are told
abbrev pub told_len : Option (List (List ℕ)) → ℕ
told_len None = 0
told_len (Some frames) = length frames

-- how many frames are told of these sessions
abbrev pub total : (ℕ → Option (List (List ℕ))) → List ℕ → ℕ
total told [] = 0
total told (id ∷ ids) = told_len (told id) + total told ids

-- The number of all frames of sessions: that of some sessions, where each other one has none.
pub record IsCount (told : ℕ → Option (List (List ℕ))) (number : ℕ) : Type 0 where
  pub ids : List ℕ
  pub differ : Differ ids
  pub others : (id : ℕ) → has_id id ids ≡ false → told id ≡ Some []
  pub number_is : number ≡ total told ids
