-- How the paths of a plan lie to one another, and what is left alone.
use Rattle.std.specs.Prelude.{◌≡◌, Bool, true, false, ◌&&◌, ◌||◌, not, List, [], ◌∷◌, Some, IsTrue}
use Rattle.std.specs.List.{AllByRecursion}
use Rattle.std.specs.FinMap as trees
use Rattle.std.specs.declared.cmp.Ordering.TheVariants.{Less}
use Rattle.sync_path.specs.Path.{path_cmp, is_under}
use Rattle.entry_tree.specs.Tree.{Names, ByPath}
use Rattle.entry_tree.specs.declared.atom.Atom.{Atom}
use Rattle.entry_tree.specs.declared.atom.Atom.TheVariants.{Dir}
use Rattle.entry_tree.specs.declared.side.Side.TheVariants.{Alpha, Beta}
use Rattle.mode_rules.specs.declared.ancestor_line.AncestorLine.{AncestorLine}
use Rattle.mode_rules.specs.declared.ancestor_line.AncestorLine.TheVariants as lines
use Rattle.mode_rules.specs.declared.change.Change.{Change}
use Rattle.mode_rules.specs.declared.conflict.Conflict.{Conflict}
use Rattle.mode_rules.specs.declared.mode.Mode.{Mode}
use Rattle.mode_rules.specs.declared.plan.Plan.{Plan}
use Rattle.mode_rules.specs.declared.verdict.Verdict.{Verdict}
use Rattle.mode_rules.specs.declared.verdict.Verdict.TheVariants as verdicts
use Rattle.mode_rules.specs.AncestorFold.{with_lines}
use Rattle.mode_rules.specs.ChangeLaws.{AreClosed}
use Rattle.mode_rules.specs.Laws.{after}
use Rattle.mode_rules.specs.Plans.{plan_of, points_of}
use Rattle.mode_rules.specs.Trees.{Trees, holds_folder}
use Rattle.mode_rules.specs.Verdicts.{verdict}

-- this holds of each item and each that follows it
abbrev pub EachPair : {X : Type 0} → (X → X → Type 0) → List X → Type 0
EachPair R [] = Unit {0}
EachPair R (x ∷ xs) = AllByRecursion (R x) xs × EachPair R xs

-- one path stands before another in path order
abbrev pub IsBefore : Names → Names → Type 0
IsBefore p q = path_cmp p q ≡ Less

-- two paths of which neither is at or below the other
pub record IsApart (p q : Names) : Type 0 where
  pub first : is_under p q ≡ false
  pub second : is_under q p ≡ false

-- the path of a line
abbrev pub line_path : AncestorLine → Names
line_path (lines.Set path atom) = path
line_path (lines.Drop path) = path

-- A line doesn't touch what stands at and below a path: it is not there itself, and if it is above, it sets a folder.
pub record IsClearOf (line : AncestorLine) (at : Names) : Type 0 where
  pub outside : is_under (line_path line) at ≡ false
  pub above : is_under at (line_path line) ≡ true → line ≡ lines.Set (line_path line) Dir

-- Each list is in path order. Of changes and conflicts no two lie at, above or below one another, and no line touches what stands there.
pub record AreApart (plan : Plan) : Type 0 where
  pub changes_rise : EachPair (λ (c d : Change). IsBefore c.at d.at) plan.changes
  pub lines_rise : EachPair (λ l m. IsBefore (line_path l) (line_path m)) plan.agreed
  pub conflicts_rise : EachPair (λ (f g : Conflict). IsBefore f.at g.at) plan.conflicts
  pub changes_apart : EachPair (λ (c d : Change). IsApart c.at d.at) plan.changes
  pub conflicts_apart : EachPair (λ (f g : Conflict). IsApart f.at g.at) plan.conflicts
  pub both_apart : AllByRecursion (λ (c : Change). AllByRecursion (λ (f : Conflict). IsApart c.at f.at) plan.conflicts) plan.changes
  pub lines_clear_changes : AllByRecursion (λ l. AllByRecursion (λ (c : Change). IsClearOf l c.at) plan.changes) plan.agreed
  pub lines_clear_conflicts : AllByRecursion (λ l. AllByRecursion (λ (f : Conflict). IsClearOf l f.at) plan.conflicts) plan.agreed

-- it is so in each plan
abbrev pub KeepsApart : Mode → Type 0
KeepsApart mode = (t : Trees) → AreApart (plan_of mode t)

-- at and below a path both sides hold after all changes what they held, and the ancestor after all agreed lines
pub record IsLeft (t : Trees) (plan : Plan) (at : Names) : Type 0 where
  pub alpha : (q : Names) → IsTrue (is_under q at) → trees.get (after Alpha t.alpha plan.changes) q ≡ trees.get t.alpha q
  pub beta : (q : Names) → IsTrue (is_under q at) → trees.get (after Beta t.beta plan.changes) q ≡ trees.get t.beta q
  pub ancestor : (tree : ByPath Atom) → with_lines t.ancestor plan.agreed ≡ Some tree → (q : Names) → IsTrue (is_under q at) → trees.get tree q ≡ trees.get t.ancestor q

-- so it is of each conflict of the plan
abbrev pub LeavesConflicts : Mode → Type 0
LeavesConflicts mode = (t : Trees) → AreClosed t → AllByRecursion (λ (found : Conflict). IsLeft t (plan_of mode t) found.at) (plan_of mode t).conflicts

-- what is decided makes both sides the same
abbrev pub meets : Verdict → Bool
meets verdicts.Left = false
meets verdicts.Blocked = false
meets verdicts.Gone = true
meets verdicts.Agreed = true
meets verdicts.AlphaTakes = true
meets verdicts.BetaTakes = true
meets verdicts.AlphaEmptied = true
meets verdicts.BetaEmptied = true
meets verdicts.BetaKeeps = false
meets verdicts.Both = false

-- what stands at q is decided at this point: it is the point, or it lies below, and the point isn't a folder on both sides
abbrev pub is_decided_at : Trees → Names → Names → Bool
is_decided_at t point q =
    is_under q point && (is_under point q || not (holds_folder (trees.get t.alpha point) && holds_folder (trees.get t.beta point)))

-- after all changes, both sides hold the same at this path
abbrev pub SidesMeetAt : Trees → Plan → Names → Type 0
SidesMeetAt t plan q = trees.get (after Alpha t.alpha plan.changes) q ≡ trees.get (after Beta t.beta plan.changes) q

-- after all changes both sides hold the same at each path that is decided at a point where the decision makes them the same, whatever is decided elsewhere
abbrev pub MeetsAtPoints : Mode → Type 0
MeetsAtPoints mode = (t : Trees) → AreClosed t
    → AllByRecursion (λ point. IsTrue (meets (verdict mode t point)) → (q : Names) → IsTrue (is_decided_at t point q) → SidesMeetAt t (plan_of mode t) q) (points_of t)

-- so they do at and below each change's path
abbrev pub MeetsAtChanges : Mode → Type 0
MeetsAtChanges mode = (t : Trees) → AreClosed t
    → AllByRecursion (λ (change : Change). (q : Names) → IsTrue (is_under q change.at) → SidesMeetAt t (plan_of mode t) q) (plan_of mode t).changes
