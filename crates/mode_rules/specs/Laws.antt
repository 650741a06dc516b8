-- What every plan keeps to, in the subject's own words.
use Rattle.std.specs.Prelude.{◌≡◌, Bool, true, false, List, [], ◌∷◌, map, Some, IsTrue, if◌then◌else◌}
use Rattle.std.specs.List.{AllByRecursion}
use Rattle.std.specs.FinMap as trees
use Rattle.sync_path.specs.Path.{is_under}
use Rattle.entry_tree.specs.Atom.{is_dir, is_tracked}
use Rattle.entry_tree.specs.Copying.{put_all}
use Rattle.entry_tree.specs.Side.{other_side}
use Rattle.entry_tree.specs.Tree.{Names, ByPath, IsClosed, entries_under, without_under}
use Rattle.entry_tree.specs.declared.atom.Atom.{Atom}
use Rattle.entry_tree.specs.declared.side.Side.{Side}
use Rattle.entry_tree.specs.declared.side.Side.TheVariants.{Alpha, Beta}
use Rattle.mode_rules.specs.declared.conflict.Conflict.{Conflict}
use Rattle.mode_rules.specs.declared.mode.Mode.{Mode}
use Rattle.mode_rules.specs.declared.change.Change.{Change}
use Rattle.mode_rules.specs.declared.plan.Plan.{Plan}
use Rattle.mode_rules.specs.Trees.{Trees, compared}
use Rattle.mode_rules.specs.Plans.{plan_of}

-- what was seen of a side
abbrev pub held : Trees → Side → ByPath Atom
held t Alpha = t.alpha
held t Beta = t.beta

-- all that the side holds at and below the change's path, what is untracked apart, is what the ancestor holds in the same place: so nothing else is
-- taken away or replaced
abbrev pub TakesOnlyTheAncestors : Trees → Change → Type 0
TakesOnlyTheAncestors t change = (path : Names) (atom : Atom)
    → IsTrue (is_under path change.at) → compared (trees.get (held t change.side) path) ≡ Some atom → trees.get t.ancestor path ≡ Some atom

-- each change of the plan does
abbrev pub TakesNothingElse : Mode → Type 0
TakesNothingElse mode = (t : Trees) → AllByRecursion (TakesOnlyTheAncestors t) (plan_of mode t).changes

-- each change of alpha in the plan does
abbrev pub TakesNothingElseOfAlpha : Mode → Type 0
TakesNothingElseOfAlpha mode = (t : Trees)
    → AllByRecursion (λ (change : Change). change.side ≡ Alpha → TakesOnlyTheAncestors t change) (plan_of mode t).changes

-- each change of the plan is one of beta
abbrev pub ChangesBetaAlone : Mode → Type 0
ChangesBetaAlone mode = (t : Trees) → AllByRecursion (λ (change : Change). change.side ≡ Beta) (plan_of mode t).changes

-- where both sides are the same, there is nothing to change and no conflict
abbrev pub LeavesEqualSides : Mode → Type 0
LeavesEqualSides mode = (t : Trees) → t.alpha ≡ t.beta → ((plan_of mode t).changes ≡ []) × ((plan_of mode t).conflicts ≡ [])

-- the trees with each side in the other's place
abbrev pub turned_trees : Trees → Trees
turned_trees t = record { ancestor = t.ancestor; alpha = t.beta; beta = t.alpha }

-- the same change of the other side
abbrev pub turned_change : Change → Change
turned_change change = record { side = other_side change.side; at = change.at; old = change.old; new = change.new }

-- the conflict with each side's paths in the other's place
abbrev pub turned_conflict : Conflict → Conflict
turned_conflict found = record { at = found.at; reason = found.reason; alpha = found.beta; beta = found.alpha }

-- the plan with each side in the other's place
abbrev pub turned_plan : Plan → Plan
turned_plan plan = record {
  halt = plan.halt;
  changes = map turned_change plan.changes;
  agreed = plan.agreed;
  conflicts = map turned_conflict plan.conflicts;
}

-- which side is called alpha makes no difference
abbrev pub TreatsSidesAlike : Mode → Type 0
TreatsSidesAlike mode = (t : Trees) → plan_of mode (turned_trees t) ≡ turned_plan (plan_of mode t)

-- nothing stands in the tree but what is tracked
abbrev pub HoldsOnlyTracked : ByPath Atom → Type 0
HoldsOnlyTracked tree = (path : Names) (atom : Atom) → trees.get tree path ≡ Some atom → IsTrue (is_tracked atom)

-- Both sides are trees, closed under parents, in which nothing stands but what is tracked.
pub record AreTracked (t : Trees) : Type 0 where
  pub alpha_closed : IsClosed is_dir t.alpha
  pub beta_closed : IsClosed is_dir t.beta
  pub alpha_tracked : HoldsOnlyTracked t.alpha
  pub beta_tracked : HoldsOnlyTracked t.beta

-- whether the change is one of the side
abbrev pub is_of : Side → Side → Bool
is_of Alpha Alpha = true
is_of Alpha Beta = false
is_of Beta Alpha = false
is_of Beta Beta = true

-- the tree with a change made: at and below the change's path it holds what the change puts there, and elsewhere what it held
abbrev pub with_change : ByPath Atom → Change → ByPath Atom
with_change tree change = put_all (without_under tree change.at) (entries_under change.new change.at)

-- what a side holds after its changes among these, each in turn
abbrev pub after : Side → ByPath Atom → List Change → ByPath Atom
after side tree [] = tree
after side tree (change ∷ changes) = after side (if is_of side change.side then with_change tree change else tree) changes

-- where nothing stands on either side but what is tracked, and there is no conflict, both sides hold the same after the changes
abbrev pub MakesSidesMeet : Mode → Type 0
MakesSidesMeet mode = (t : Trees) → AreTracked t → (plan_of mode t).conflicts ≡ []
    → after Alpha t.alpha (plan_of mode t).changes ≡ after Beta t.beta (plan_of mode t).changes
