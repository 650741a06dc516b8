-- What an operation of a change takes away.
use Rattle.std.specs.Prelude.{◌≡◌, Option, Some, None}
use Rattle.std.specs.FinMap as map
use Rattle.entry_tree.specs.Tree.{Names, ByPath}
use Rattle.entry_tree.specs.declared.atom.Atom.{Atom}
use Rattle.entry_tree.specs.declared.entry.Entry.{Entry}
use Rattle.entry_tree.specs.declared.entry.Stamp.{Stamp}
use Rattle.mode_rules.specs.declared.change.Change.{Change}
use Rattle.roots_api.specs.declared.op.Op.{Op}
use Rattle.roots_api.specs.declared.op.Op.TheVariants.{Place, MakeLink, Remove, SetExec}
use Rattle.transition_plan.specs.Stepping.{entry_of}

-- The entry is the one that the stamps tell of what was seen at the path. (They tell one of what is tracked alone.)
pub record IsSeen (stamps : ByPath Stamp) (change : Change) (path : Names) (expected : Entry) : Type 0 where
  pub atom : Atom
  pub there : map.get change.old path ≡ Some atom
  pub told : entry_of stamps path atom ≡ Some expected

-- if an entry is taken away, it is the one that was seen
abbrev pub IsSeenIfAny : ByPath Stamp → Change → Names → Option Entry → Type 0
IsSeenIfAny stamps change path None = Unit {0}
IsSeenIfAny stamps change path (Some expected) = IsSeen stamps change path expected

-- an operation takes away only what was seen at its path
abbrev pub TakesOnlySeen : ByPath Stamp → Change → Op → Type 0
TakesOnlySeen stamps change (Remove path expected) = IsSeen stamps change path expected
TakesOnlySeen stamps change (SetExec path expected on) = IsSeen stamps change path expected
TakesOnlySeen stamps change (Place path digest executable expected) = IsSeenIfAny stamps change path expected
TakesOnlySeen stamps change (MakeLink path text expected) = IsSeenIfAny stamps change path expected
TakesOnlySeen stamps change op = Unit {0}
