-- What is left to do once all that a plan says is done.
use Rattle.std.specs.Prelude.{◌≡◌, Bool, true, false, ◌&&◌, List, [], ◌++◌, reverse, Option, Some, None, if◌then◌else◌}
use Rattle.std.specs.List.{AllByRecursion, filter, filter_map, flat_map}
use Rattle.std.specs.Option.{option_map, option_to_list}
use Rattle.std.specs.FinMap as trees
use Rattle.entry_tree.specs.Atom.{is_tracked}
use Rattle.entry_tree.specs.Tree.{Names, ByPath}
use Rattle.entry_tree.specs.declared.atom.Atom.{Atom}
use Rattle.entry_tree.specs.declared.atom.Atom.TheVariants.{Dir, File, Link, Untracked, Problem}
use Rattle.entry_tree.specs.declared.side.Side.{Side}
use Rattle.entry_tree.specs.declared.side.Side.TheVariants.{Alpha, Beta}
use Rattle.mode_rules.specs.declared.ancestor_line.AncestorLine.{AncestorLine}
use Rattle.mode_rules.specs.declared.ancestor_line.AncestorLine.TheVariants as lines
use Rattle.mode_rules.specs.declared.change.Change.{Change}
use Rattle.mode_rules.specs.declared.mode.Mode.{Mode}
use Rattle.mode_rules.specs.declared.plan.Plan.{Plan}
use Rattle.mode_rules.specs.AncestorFold.{with_lines}
use Rattle.mode_rules.specs.ChangeLaws.{AreClosed}
use Rattle.mode_rules.specs.Laws.{HoldsOnlyTracked, after, is_of}
use Rattle.mode_rules.specs.Plans.{plan_of}
use Rattle.mode_rules.specs.Trees.{Trees}

-- a file or a link stands there
abbrev pub is_leaf : Option Atom → Bool
is_leaf None = false
is_leaf (Some Dir) = false
is_leaf (Some (File digest executable)) = true
is_leaf (Some (Link text)) = true
is_leaf (Some Untracked) = false
is_leaf (Some (Problem kind)) = false

-- the line of a removal of what stands there, where it is tracked
abbrev pub drop_line : Names × Atom → Option AncestorLine
drop_line e = if is_tracked e.1 then Some (lines.Drop e.0) else None

-- the line of a creation of what is to stand there, where it is tracked
abbrev pub set_line : Names × Atom → Option AncestorLine
set_line e = if is_tracked e.1 then Some (lines.Set e.0 e.1) else None

-- One line for each operation of a change, where each is done. A file or link that takes the place of one is one operation. Else each tracked atom that the side
-- held is removed, in reverse path order, and then each that it is to hold is made, in path order.
abbrev pub operation_lines : Change → List AncestorLine
operation_lines change =
    if is_leaf (trees.get change.old change.at) && is_leaf (trees.get change.new change.at)
    then option_to_list (option_map (lines.Set change.at) (trees.get change.new change.at))
    else reverse (filter_map drop_line (trees.entries change.old)) ++ filter_map set_line (trees.entries change.new)

-- the lines of all operations of a side's changes
abbrev pub lines_of_side : Side → List Change → List AncestorLine
lines_of_side side changes = flat_map operation_lines (filter (λ (c : Change). is_of side c.side) changes)

-- all lines of a plan whose operations are all done: the agreed ones, then alpha's, then beta's
abbrev pub settled_lines : Plan → List AncestorLine
settled_lines plan = plan.agreed ++ (lines_of_side Alpha plan.changes ++ lines_of_side Beta plan.changes)

-- the three trees once all changes are made, with this ancestor
abbrev pub settled : Trees → Plan → ByPath Atom → Trees
settled t plan tree = record { ancestor = tree; alpha = after Alpha t.alpha plan.changes; beta = after Beta t.beta plan.changes }

-- the line drops a path at which neither side holds anything
abbrev pub DropsNothing : Trees → AncestorLine → Type 0
DropsNothing t (lines.Set path atom) = ⊥
DropsNothing t (lines.Drop path) = (trees.get t.alpha path ≡ None) × (trees.get t.beta path ≡ None)

-- The ancestor can take up all lines, and with what comes of it the next plan has nothing to do but to drop what neither side holds.
pub record Settles (mode : Mode) (t : Trees) : Type 0 where
  pub tree : ByPath Atom
  pub folds : with_lines t.ancestor (settled_lines (plan_of mode t)) ≡ Some tree
  pub changes : (plan_of mode (settled t (plan_of mode t) tree)).changes ≡ []
  pub conflicts : (plan_of mode (settled t (plan_of mode t) tree)).conflicts ≡ []
  pub lines : AllByRecursion (DropsNothing (settled t (plan_of mode t) tree)) (plan_of mode (settled t (plan_of mode t) tree)).agreed

-- so it is where only what is tracked stands in the three trees, and the plan has no conflict
abbrev pub EachSettles : Mode → Type 0
EachSettles mode = (t : Trees) → AreClosed t → HoldsOnlyTracked t.ancestor → HoldsOnlyTracked t.alpha → HoldsOnlyTracked t.beta → (plan_of mode t).conflicts ≡ [] → Settles mode t
