-- What an undisturbed staging keeps: one whose operations are answered by the rows on states that follow from each other.
use Rattle.std.specs.Prelude.{◌≡◌, ◌≤◌, ℕ, Bool, true, false, cond, List, [], ◌∷◌, length}
use Rattle.std.specs.FinMap as map
use Rattle.std.specs.List.{AllByRecursion}
use Rattle.sha2.specs.Sha256.{sha256}
use Rattle.entry_tree.specs.declared.side.Side.{Side}
use Rattle.roots_api.specs.States.{RootState, content_of, has_stamp}
use Rattle.roots_api.specs.Steps.{answer_of, after}
use Rattle.roots_api.specs.declared.limits.TheConstants.{MAX_FETCH}
use Rattle.stage_core.specs.Needs.{is_same_side}
use Rattle.stage_core.specs.Turns.{Turn, Stages, IsWhole}
use Rattle.stage_core.specs.declared.need.Need.{Need}
use Rattle.transition_laws.specs.Undisturbed.{KeepsContent}

-- one of two, by a test
abbrev pub WhereIs : Bool → Type 0 → Type 0 → Type 0
WhereIs true A B = A
WhereIs false A B = B

module _ (side : Side) (id : ℕ) (there : RootState) where
  -- each operation on the side that needs the files is answered by its row, on the states that follow from each other from this one on; each on the other
  -- side by its row on one state, which a Fetch doesn't change
  abbrev pub AreServed : RootState → List Turn → Type 0
  AreServed here [] = Unit {0}
  AreServed here (t ∷ ts) =
      WhereIs (is_same_side t.side side) ((t.answer ≡ answer_of here id t.op) × AreServed (after here id t.op (answer_of here id t.op)) ts)
      ((t.answer ≡ answer_of there id t.op) × AreServed here ts)

  -- the state of the side that needs the files, behind all of them
  abbrev pub state_served : RootState → List Turn → RootState
  state_served here [] = here
  state_served here (t ∷ ts) = cond (is_same_side t.side side) (state_served (after here id t.op (answer_of here id t.op)) ts) (state_served here ts)

-- A file stands on the other side with its stamp, whose content has its digest and can be fetched.
pub record IsServed (there : RootState) (need : Need) : Type 0 where
  pub stamped : has_stamp (map.get there.tree need.path) need.stamp ≡ true
  pub fits : length (content_of there.ledger need.stamp) ≤ MAX_FETCH
  pub is : sha256 (content_of there.ledger need.stamp) ≡ need.digest

-- AN UNDISTURBED STAGING KEEPS each of its files that stands on the other side
abbrev pub UndisturbedKeeps : Type 0
UndisturbedKeeps =
    (side : Side) (needs : List Need) (turns : List Turn) (id : ℕ) (here there : RootState) → Stages side needs turns → IsWhole side needs turns → AreServed side id there here turns
    → AllByRecursion (λ (need : Need). IsServed there need → KeepsContent (state_served side id there here turns) id need.digest) needs

-- and changes nothing but what is staged
pub record IsStagedAlone (here now : RootState) : Type 0 where
  pub tree : now.tree ≡ here.tree
  pub ledger : now.ledger ≡ here.ledger

abbrev pub StagesAlone : Type 0
StagesAlone =
    (side : Side) (needs : List Need) (turns : List Turn) (id : ℕ) (here there : RootState) → Stages side needs turns → AreServed side id there here turns
    → IsStagedAlone here (state_served side id there here turns)
