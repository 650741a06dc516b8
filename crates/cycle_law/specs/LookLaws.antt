-- A state agrees with its look.
use Rattle.std.specs.Prelude.{◌≡◌, ℕ, true, List, Some, None, is_some}
use Rattle.std.specs.FinMap as map
use Rattle.sync_path.specs.Path.{parent_of}
use Rattle.entry_tree.specs.Atom.{is_dir}
use Rattle.entry_tree.specs.Entry.{is_dir as is_folder}
use Rattle.entry_tree.specs.Subtree.{subtree}
use Rattle.entry_tree.specs.Tree.{Names, ByPath, IsClosed, holds_folder}
use Rattle.entry_tree.specs.declared.atom.Atom.{Atom}
use Rattle.entry_tree.specs.declared.entry.Stamp.{Stamp}
use Rattle.ignore_glob.specs.Grammar.{Meaning}
use Rattle.roots_api.specs.States.{RootState}
use Rattle.scan_laws.specs.Look.{look_at}
use Rattle.transition_laws.specs.Undisturbed.{Agrees, IsPartOfTree, is_beneath_let_be}
use Rattle.cycle_law.specs.Saw.{stamp_seen}

-- A root in a state whose tree is closed under parents, as that of each legal log is; a tree that is its look; and the stamps of the files in that.
pub record IsItsLook (s : RootState) (rules : List Meaning) (size : ℕ) (tree : ByPath Atom) (stamps : ByPath Stamp) : Type 0 where
  pub closed : IsClosed is_folder s.tree
  pub look : (p : Names) → map.get tree p ≡ look_at s rules size p
  pub stamped : (p : Names) → map.get stamps p ≡ stamp_seen (map.get tree p) (map.get s.tree p)

-- the path is the root, or the tree holds a folder at its parent
abbrev pub IsInFolder : ByPath Atom → Names → Type 0
IsInFolder tree at = (parent : Names) → parent_of at ≡ Some parent → holds_folder is_dir (map.get tree parent) ≡ true

-- A STATE AGREES WITH ITS LOOK at and below each path in a folder: what the look shows as tracked stands there with that atom and stamp; what it shows
-- otherwise stands there too; and nothing else stands there, but below what isn't tracked.
abbrev pub StateAgreesWithLook : Type 0
StateAgreesWithLook =
    (s : RootState) (rules : List Meaning) (size : ℕ) (tree : ByPath Atom) (stamps : ByPath Stamp) → IsItsLook s rules size tree stamps
    → (at : Names) → IsInFolder tree at → Agrees s stamps (subtree tree at) at

-- What a look shows at and below a path is part of a tree.
abbrev pub LookIsTree : Type 0
LookIsTree =
    (s : RootState) (rules : List Meaning) (size : ℕ) (tree : ByPath Atom) (stamps : ByPath Stamp) → IsItsLook s rules size tree stamps
    → (at : Names) → IsPartOfTree (subtree tree at) at

-- What stands and isn't shown lies below something that is shown and isn't tracked.
abbrev pub HiddenIsBelowUntracked : Type 0
HiddenIsBelowUntracked =
    (s : RootState) (rules : List Meaning) (size : ℕ) (tree : ByPath Atom) (stamps : ByPath Stamp) → IsItsLook s rules size tree stamps
    → (p : Names) → is_some (map.get s.tree p) ≡ true → map.get tree p ≡ None → is_beneath_let_be tree p ≡ true
