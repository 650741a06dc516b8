-- What each change is made of, and what it may take away.
use Rattle.std.specs.Prelude.{◌≡◌, Some, IsTrue}
use Rattle.std.specs.List.{AllByRecursion}
use Rattle.std.specs.FinMap as trees
use Rattle.sync_path.specs.Path.{is_under}
use Rattle.entry_tree.specs.Atom.{is_dir, is_tracked}
use Rattle.entry_tree.specs.Side.{other_side}
use Rattle.entry_tree.specs.Subtree.{subtree}
use Rattle.entry_tree.specs.Tree.{Names, IsClosed}
use Rattle.entry_tree.specs.declared.atom.Atom.{Atom}
use Rattle.entry_tree.specs.declared.side.Side.TheVariants.{Alpha}
use Rattle.mode_rules.specs.declared.change.Change.{Change}
use Rattle.mode_rules.specs.declared.mode.Mode.{Mode}
use Rattle.mode_rules.specs.Laws.{held}
use Rattle.mode_rules.specs.Plans.{plan_of}
use Rattle.mode_rules.specs.Trees.{Trees}

-- Each of the three trees is closed under parents, as every `Tree` is.
pub record AreClosed (t : Trees) : Type 0 where
  pub ancestor : IsClosed is_dir t.ancestor
  pub alpha : IsClosed is_dir t.alpha
  pub beta : IsClosed is_dir t.beta

-- The change goes from what its side holds at and below its path to what the other side holds there.
pub record TakesFromOther (t : Trees) (change : Change) : Type 0 where
  pub old : change.old ≡ subtree (held t change.side) change.at
  pub new : change.new ≡ subtree (held t (other_side change.side)) change.at

-- each change of the plan does
abbrev pub TakesFromOthers : Mode → Type 0
TakesFromOthers mode = (t : Trees) → AreClosed t → AllByRecursion (TakesFromOther t) (plan_of mode t).changes

-- at and below the change's path, no path holds on the other side what it holds on the side that is changed
abbrev pub ReplacesOthers : Trees → Change → Type 0
ReplacesOthers t change = (path : Names) (atom : Atom)
    → IsTrue (is_under path change.at) → trees.get (held t change.side) path ≡ Some atom → trees.get (held t (other_side change.side)) path ≡ Some atom → ⊥

-- each change of the plan is so
abbrev pub ReplacesOnlyOthers : Mode → Type 0
ReplacesOnlyOthers mode = (t : Trees) → AreClosed t → AllByRecursion (ReplacesOthers t) (plan_of mode t).changes

-- What the change may take away: each tracked atom that its side holds at or below its path is held there by the ancestor, and not by the other side.
abbrev pub IsLicensed : Trees → Change → Type 0
IsLicensed t change = (path : Names) (atom : Atom)
    → IsTrue (is_under path change.at) → IsTrue (is_tracked atom) → trees.get (held t change.side) path ≡ Some atom
    → (trees.get t.ancestor path ≡ Some atom) × (trees.get (held t (other_side change.side)) path ≡ Some atom → ⊥)

-- each change of the plan may
abbrev pub AreLicensed : Mode → Type 0
AreLicensed mode = (t : Trees) → AreClosed t → AllByRecursion (IsLicensed t) (plan_of mode t).changes

-- each change of alpha in the plan may
abbrev pub AreLicensedOfAlpha : Mode → Type 0
AreLicensedOfAlpha mode = (t : Trees) → AreClosed t → AllByRecursion (λ (change : Change). change.side ≡ Alpha → IsLicensed t change) (plan_of mode t).changes
