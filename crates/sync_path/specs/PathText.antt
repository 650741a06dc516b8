-- The grammar of the texts of paths, and where a text that is none breaks it.
use Rattle.std.specs.Prelude.{◌≡◌, ◌==◌, ℕ, false, List, [], ◌∷◌, ◌++◌}
use Rattle.std.specs.List.{slice_split}
use Rattle.sync_path.specs.Path.{IsPath, path_text, place_behind, may_follow}

-- This text is that of a path.
abbrev pub IsPathText : List ℕ → Type 0
IsPathText text = (names : List (List ℕ)) × IsPath names × (text ≡ path_text names)

-- the parts of a text between its slashes (47); the empty text has none
abbrev pub parts_of : List ℕ → List (List ℕ)
parts_of [] = []
parts_of (b ∷ bs) = slice_split (λ c. c == 47) (b ∷ bs)

-- At this byte begins the first part of the text that may not stand where it does: the parts before it make a path.
pub record IsBadPlace (text : List ℕ) (place : ℕ) : Type 0 where
  pub before : List (List ℕ)
  pub part : List ℕ
  pub behind : List (List ℕ)
  pub parts : parts_of text ≡ before ++ part ∷ behind
  pub sound : IsPath before
  pub bad : may_follow before part ≡ false
  pub begins : place ≡ place_behind before
