-- What a frame makes of an ancestor.
use Rattle.std.specs.Prelude.{◌≡◌, ℕ, List, ◌∷◌, ◌++◌, length, Some, None}
use Rattle.frame_text.specs.Folds.{Folded, FoldsTo, first_payload, with_payload}
use Rattle.frame_text.specs.Payloads.{Spells}
use Rattle.frame_text.specs.declared.payload.Payload.{Payload}

-- the bytes spell a first payload that comes to this
abbrev pub IsFirst : List ℕ → Folded → Type 0
IsFirst bytes folded = (payload : Payload) × Spells bytes payload × (first_payload payload ≡ Some folded)

-- the bytes spell no payload that can stand first
abbrev pub NoFirst : List ℕ → Type 0
NoFirst bytes = (payload : Payload) → Spells bytes payload → first_payload payload ≡ None

-- the bytes spell a payload that comes to this behind others
abbrev pub IsNext : Folded → List ℕ → Folded → Type 0
IsNext folded bytes next = (payload : Payload) × Spells bytes payload × (with_payload folded payload ≡ Some next)

-- the bytes spell no payload that can stand behind others
abbrev pub NoNext : Folded → List ℕ → Type 0
NoNext folded bytes = (payload : Payload) → Spells bytes payload → with_payload folded payload ≡ None

-- So many frames were taken up, at least one, these came to the ancestor, and these are left.
pub record Opened (frames : List (List ℕ)) (folded : Folded) (number : ℕ) (left : List (List ℕ)) : Type 0 where
  pub first : List ℕ
  pub taken : List (List ℕ)
  pub all : frames ≡ first ∷ taken ++ left
  pub number_is : number ≡ length (first ∷ taken)
  pub folds : FoldsTo (first ∷ taken) folded
