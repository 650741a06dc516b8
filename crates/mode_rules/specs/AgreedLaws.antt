-- What the ancestor becomes by the agreed lines.
use Rattle.std.specs.Prelude.{◌≡◌, List, Some, IsTrue}
use Rattle.std.specs.List.{AllByRecursion}
use Rattle.entry_tree.specs.Atom.{is_dir, is_tracked}
use Rattle.entry_tree.specs.Tree.{ByPath, IsClosed}
use Rattle.entry_tree.specs.declared.atom.Atom.{Atom}
use Rattle.mode_rules.specs.declared.ancestor_line.AncestorLine.{AncestorLine}
use Rattle.mode_rules.specs.declared.ancestor_line.AncestorLine.TheVariants.{Set, Drop}
use Rattle.mode_rules.specs.declared.mode.Mode.{Mode}
use Rattle.mode_rules.specs.AncestorFold.{with_lines}
use Rattle.mode_rules.specs.ChangeLaws.{AreClosed}
use Rattle.mode_rules.specs.Laws.{HoldsOnlyTracked}
use Rattle.mode_rules.specs.Plans.{plan_of}
use Rattle.mode_rules.specs.Trees.{Trees}

-- what the line sets is tracked
abbrev pub SetsTracked : AncestorLine → Type 0
SetsTracked (Set path atom) = IsTrue (is_tracked atom)
SetsTracked (Drop path) = Unit {0}

-- Each line can be taken up in its turn, and what comes of all is closed under parents and holds only what is tracked.
pub record AgreedFold (ancestor : ByPath Atom) (agreed : List AncestorLine) : Type 0 where
  pub tree : ByPath Atom
  pub folds : with_lines ancestor agreed ≡ Some tree
  pub closed : IsClosed is_dir tree
  pub tracked : HoldsOnlyTracked tree
  pub sets : AllByRecursion SetsTracked agreed

-- it is so of the agreed lines of each plan whose ancestor holds only what is tracked
abbrev pub KeepsAncestor : Mode → Type 0
KeepsAncestor mode = (t : Trees) → AreClosed t → HoldsOnlyTracked t.ancestor → AgreedFold t.ancestor (plan_of mode t).agreed
