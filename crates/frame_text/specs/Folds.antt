-- The fold of a session's payloads: the ancestor, and which reset was served.
use Rattle.std.specs.Prelude.{◌≡◌, ℕ, List, [], ◌∷◌, ◌++◌, length, Option, Some, None}
use Rattle.std.specs.FinMap as map
use Rattle.std.specs.Option.{option_map, option_and_then}
use Rattle.entry_tree.specs.Tree.{ByPath}
use Rattle.entry_tree.specs.declared.atom.Atom.{Atom}
use Rattle.mode_rules.specs.AncestorFold.{with_lines}
use Rattle.frame_text.specs.Payloads.{Spells}
use Rattle.frame_text.specs.declared.payload.Payload.{Payload}
use Rattle.frame_text.specs.declared.payload.Payload.TheVariants.{Agree, Reset, Whole}

-- what the payloads of a session come to: the tree that the ancestor holds, and the number of the reset that was served last
pub record Folded : Type 0 where
  pub tree : ByPath Atom
  pub served : ℕ

-- no payload: the ancestor holds nothing, and no reset was served
abbrev pub unfolded : Folded
unfolded = record { tree = map.empty; served = 0 }

-- the same with another tree
abbrev pub with_tree : Folded → Option (ByPath Atom) → Option Folded
with_tree folded tree = option_map (λ (next : ByPath Atom). record { tree = next; served = folded.served }) tree

-- What comes of one payload more behind others. `agree` takes up its lines, if they can be; `reset` leaves nothing, and is served; `whole` can stand
-- behind no other payload.
abbrev pub with_payload : Folded → Payload → Option Folded
with_payload folded (Agree version run cycle lines) = with_tree folded (with_lines folded.tree lines)
with_payload folded (Reset number) = Some (record { tree = map.empty; served = number })
with_payload folded (Whole run cycle served lines) = None

-- What comes of the first payload: `whole` is exactly its lines, if they can be taken up, and any other payload is as behind others.
abbrev pub first_payload : Payload → Option Folded
first_payload (Agree version run cycle lines) = with_payload unfolded (Agree version run cycle lines)
first_payload (Reset number) = with_payload unfolded (Reset number)
first_payload (Whole run cycle served lines) = with_tree (record { tree = map.empty; served = served }) (with_lines map.empty lines)

-- all payloads behind others, in turn
abbrev pub folded_from : Folded → List Payload → Option Folded
folded_from folded [] = Some folded
folded_from folded (payload ∷ payloads) = option_and_then (λ (next : Folded). folded_from next payloads) (with_payload folded payload)

-- The fold of all payloads of a session, if each of them can stand where it does.
abbrev pub fold_of : List Payload → Option Folded
fold_of [] = Some unfolded
fold_of (payload ∷ payloads) = option_and_then (λ (next : Folded). folded_from next payloads) (first_payload payload)

-- these bytes spell these payloads, one for one
abbrev pub AllSpell : List (List ℕ) → List Payload → Type 0
AllSpell [] [] = Unit {0}
AllSpell [] (payload ∷ payloads) = ⊥
AllSpell (bytes ∷ frames) [] = ⊥
AllSpell (bytes ∷ frames) (payload ∷ payloads) = Spells bytes payload × AllSpell frames payloads

-- The fold of a session's kept frames, each the bytes of a payload.
abbrev pub FoldsTo : List (List ℕ) → Folded → Type 0
FoldsTo frames folded = (payloads : List Payload) × AllSpell frames payloads × (fold_of payloads ≡ Some folded)

-- The frame with this number, counted from 0, is outside the grammar: the frames before it have a fold, and with it they have none.
pub record IsBadFrame (frames : List (List ℕ)) (number : ℕ) : Type 0 where
  pub before : List (List ℕ)
  pub bytes : List ℕ
  pub behind : List (List ℕ)
  pub all : frames ≡ before ++ bytes ∷ behind
  pub number_is : number ≡ length before
  pub folds : (folded : Folded) × FoldsTo before folded
  pub bad : (folded : Folded) → FoldsTo (before ++ bytes ∷ []) folded → ⊥
