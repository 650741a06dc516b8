-- Why a cycle stops before it changes anything.
use Rattle.std.specs.Prelude.{Bool, true, false, not, ◌&&◌, ◌||◌, List, [], ◌∷◌, length, nat_le, Option, Some, None, if◌then◌else◌, is_some}
use Rattle.std.specs.List.{filter, list_any}
use Rattle.std.specs.FinMap as trees
use Rattle.entry_tree.specs.Tree.{Names, ByPath}
use Rattle.entry_tree.specs.declared.atom.Atom.{Atom}
use Rattle.mode_rules.specs.declared.mode.Mode.{Mode}
use Rattle.mode_rules.specs.declared.mode.Mode.TheVariants.{TwoWaySafe, TwoWayResolved, OneWaySafe, OneWayReplica}
use Rattle.mode_rules.specs.declared.halt.Halt.{Halt}
use Rattle.mode_rules.specs.declared.halt.Halt.TheVariants as halts
use Rattle.mode_rules.specs.declared.change.Change.{Change}
use Rattle.mode_rules.specs.Trees.{Trees, holds_tracked, holds_folder, compared}

-- the root has no names
abbrev pub is_root : Names → Bool
is_root [] = true
is_root (name ∷ names) = false

-- the change is one of a root
abbrev pub is_at_root : Change → Bool
is_at_root change = is_root change.at

-- a root that holds something is to hold nothing
abbrev pub deletes_root : Change → Bool
deletes_root change = is_at_root change && is_some (trees.get change.old []) && not (is_some (trees.get change.new []))

-- exactly one of two
abbrev pub one_of : Bool → Bool → Bool
one_of a b = (a && not b) || (not a && b)

-- a root is to turn from a folder into a file or link, or back
abbrev pub turns_root : Change → Bool
turns_root change = is_at_root change
    && holds_tracked (trees.get change.old []) && holds_tracked (trees.get change.new [])
    && one_of (holds_folder (trees.get change.old [])) (holds_folder (trees.get change.new []))

-- a path directly below the root
abbrev pub is_at_top : Names → Bool
is_at_top [] = false
is_at_top (name ∷ []) = true
is_at_top (name ∷ next ∷ names) = false

-- what stands directly below the root
abbrev pub top_of : ByPath Atom → List (Names × Atom)
top_of tree = filter (λ e. is_at_top e.0) (trees.entries tree)

-- tracked, or a problem
abbrev pub counts : Atom → Bool
counts atom = is_some (compared (Some atom))

-- a folder in which nothing stands that is tracked or a problem
abbrev pub is_emptied : ByPath Atom → Bool
is_emptied tree = holds_folder (trees.get tree []) && not (list_any (λ e. counts e.1) (top_of tree))

-- whether both sides' changes count alike
abbrev pub is_two_way : Mode → Bool
is_two_way TwoWaySafe = true
is_two_way TwoWayResolved = true
is_two_way OneWaySafe = false
is_two_way OneWayReplica = false

-- one side's root, and not the other's, has lost all that it had, where the ancestor's has two names or more
abbrev pub empties_root : Mode → Trees → Bool
empties_root mode t = is_two_way mode && nat_le 2 (length (top_of t.ancestor))
    && one_of (is_emptied t.alpha) (is_emptied t.beta)

-- the first reason that holds
abbrev pub halt_of : Mode → Trees → List Change → Option Halt
halt_of mode t changes =
    if list_any deletes_root changes then Some halts.RootDeleted
    else (if list_any turns_root changes then Some halts.RootTypeChanged
    else (if empties_root mode t then Some halts.RootEmptied
    else None))
