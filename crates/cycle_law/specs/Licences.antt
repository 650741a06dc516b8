-- What a cycle takes away, and whether it may.
use Rattle.std.specs.Prelude.{ℕ, Bool, true, false, not, ◌&&◌, List, Option, Some, None, if◌then◌else◌}
use Rattle.std.specs.FinMap as map
use Rattle.std.specs.List.{list_all, filter_map}
use Rattle.std.specs.Option.{option_map}
use Rattle.entry_tree.specs.Atom.{same_bit}
use Rattle.entry_tree.specs.Side.{other_side}
use Rattle.entry_tree.specs.Tree.{Names}
use Rattle.entry_tree.specs.declared.atom.Atom.{Atom}
use Rattle.entry_tree.specs.declared.atom.Atom.TheVariants as atom
use Rattle.entry_tree.specs.declared.entry.Entry.{Entry}
use Rattle.entry_tree.specs.declared.entry.Entry.TheVariants as entry
use Rattle.entry_tree.specs.declared.entry.Stamp.{Stamp}
use Rattle.entry_tree.specs.declared.side.Side.{Side}
use Rattle.entry_tree.specs.declared.side.Side.TheVariants.{Alpha, Beta}
use Rattle.mode_rules.specs.Trees.{same_there}
use Rattle.mode_rules.specs.declared.mode.Mode.{Mode}
use Rattle.mode_rules.specs.declared.mode.Mode.TheVariants.{TwoWaySafe, TwoWayResolved, OneWaySafe, OneWayReplica}
use Rattle.roots_api.specs.Answers.{is_done}
use Rattle.roots_api.specs.declared.event.Span.{Span}
use Rattle.roots_api.specs.declared.op.Op.{Op}
use Rattle.roots_api.specs.declared.op.Op.TheVariants.{Place, MakeLink, Remove, SetExec}
use Rattle.scan_laws.specs.Seen.{Heard}
use Rattle.cycle_law.specs.Cycles.{Session, Cycle, Ground, log_of, heard_on}
use Rattle.cycle_law.specs.Saw.{saw_at}

-- the atom of an entry
abbrev pub atom_of : (Stamp → List ℕ) → Entry → Atom
atom_of digest entry.Dir = atom.Dir
atom_of digest (entry.File stamp exec) = atom.File (digest stamp) exec
atom_of digest (entry.Link text) = atom.Link text
atom_of digest entry.Other = atom.Untracked

-- what an operation takes away where it is done: the entry that it removes or replaces, or a file's bit
abbrev pub taken_with_bit : Names → Entry → Bool → Option (Names × Entry)
taken_with_bit path (entry.File stamp exec) on = if same_bit exec on then None else Some (path, entry.File stamp exec)
taken_with_bit path found on = None

abbrev pub taken_by : Op → Option (Names × Entry)
taken_by (Place path digest exec expected) = option_map (λ e. (path, e)) expected
taken_by (MakeLink path text expected) = option_map (λ e. (path, e)) expected
taken_by (Remove path expected) = Some (path, expected)
taken_by (SetExec path expected on) = taken_with_bit path expected on
taken_by op = None

abbrev pub taken_in : Heard Span → Option (Names × Entry)
taken_in h = if is_done h.answer then taken_by h.op else None

-- all that a cycle took away on a side, in order
abbrev pub taken_on : Ground → Cycle → Side → List (Names × Entry)
taken_on g c side = filter_map taken_in (heard_on c (log_of g side))

-- whether this atom was found
abbrev pub is_there : Option Atom → Atom → Bool
is_there found a = same_there found (Some a)

module _ (session : Session) (g : Ground) (c : Cycle) (side : Side) where
  -- A LICENCE to take away an atom: the ancestor of the cycle holds it there, and what the cycle saw of the other side isn't it
  abbrev pub is_licensed_atom : Names → Atom → Bool
  is_licensed_atom path a = is_there (map.get g.ancestor path) a && not (is_there (saw_at session g c (other_side side) path) a)

  abbrev pub is_licensed : Names × Entry → Bool
  is_licensed taken = is_licensed_atom taken.0 (atom_of (log_of g side).digest taken.1)

  -- whether all that was taken away on the side was licensed
  abbrev pub are_licensed : Bool
  are_licensed = list_all is_licensed (taken_on g c side)

-- which side's removals a mode licenses: both in two-way-safe, alpha's in two-way-resolved, beta's in one-way-safe
abbrev pub wants_licence : Mode → Side → Bool
wants_licence TwoWaySafe side = true
wants_licence TwoWayResolved Alpha = true
wants_licence TwoWayResolved Beta = false
wants_licence OneWaySafe Alpha = false
wants_licence OneWaySafe Beta = true
wants_licence OneWayReplica side = false

-- whether a mode leaves a side as it is: alpha in the one-way modes
abbrev pub is_left : Mode → Side → Bool
is_left TwoWaySafe side = false
is_left TwoWayResolved side = false
is_left OneWaySafe Alpha = true
is_left OneWaySafe Beta = false
is_left OneWayReplica Alpha = true
is_left OneWayReplica Beta = false
