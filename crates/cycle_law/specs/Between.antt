-- What stays and what changes between two states of a root.
use Rattle.std.specs.Prelude.{◌≡◌, Bool, true, not, ◌&&◌, ◌||◌, List, ◌++◌, is_some, Option, Some, None, if◌then◌else◌}
use Rattle.std.specs.FinMap as map
use Rattle.std.specs.List.{list_all, list_any}
use Rattle.std.specs.Option.{option_map}
use Rattle.sync_path.specs.Path.{is_under}
use Rattle.entry_tree.specs.Atom.{is_tracked}
use Rattle.entry_tree.specs.Tree.{Names}
use Rattle.entry_tree.specs.declared.atom.Atom.{Atom}
use Rattle.entry_tree.specs.declared.entry.Entry.{Entry}
use Rattle.entry_tree.specs.declared.entry.Entry.TheVariants as entry
use Rattle.mode_rules.specs.Placing.{sets_bit_alone}
use Rattle.mode_rules.specs.Trees.{same_there}
use Rattle.mode_rules.specs.declared.change.Change.{Change}
use Rattle.roots_api.specs.States.{RootState, is_expected, has_stamp}
use Rattle.roots_api.specs.Views.{atom_of}
use Rattle.transition_laws.specs.Undisturbed.{Leaves, has_let_be, goes}

-- each path at which something stands in one of two states
abbrev pub paths_in_either : RootState → RootState → List Names
paths_in_either s n = map.keys s.tree ++ map.keys n.tree

-- whether the same entry stands at a path in both, stamp included, or nothing in either
abbrev pub stays_at : RootState → RootState → Names → Bool
stays_at s n p = is_expected (map.get n.tree p) (map.get s.tree p)

-- whether all stays
abbrev pub all_stays : RootState → RootState → Bool
all_stays s n = list_all (stays_at s n) (paths_in_either s n)

-- whether all stays that lies outside of some changes
abbrev pub others_stay : List Change → RootState → RootState → Bool
others_stay changes s n = list_all (λ p. list_any (λ (change : Change). is_under p change.at) changes || stays_at s n p) (paths_in_either s n)

-- an atom, if it is tracked
abbrev pub only_tracked : Option Atom → Option Atom
only_tracked None = None
only_tracked (Some a) = if is_tracked a then Some a else None

-- Whether a change left at a path what it is to leave. Where all that it took is tracked, what is tracked in its new tree stands there, and nothing else.
-- Else what is tracked goes, but for the folders above what isn't tracked, and all else stays.
abbrev pub is_left_at : RootState → RootState → Change → Names → Bool
is_left_at s n change p =
    if has_let_be change.old then (if goes change.old p then not (is_some (map.get n.tree p)) else stays_at s n p)
    else same_there (only_tracked (map.get change.new p)) (option_map (atom_of n.ledger) (map.get n.tree p))

-- whether a file that stood there still has its stamp
abbrev pub keeps_stamp : Option Entry → Option Entry → Bool
keeps_stamp (Some (entry.File stamp exec)) found = has_stamp found stamp
keeps_stamp was found = true

-- Whether a change left what it is to leave, at and below its path. Where it sets a bit alone, the stamp stays.
abbrev pub is_left : RootState → RootState → Change → Bool
is_left s n change =
    list_all (λ p. not (is_under p change.at) || is_left_at s n change p) (map.keys change.new ++ paths_in_either s n)
    && (not (sets_bit_alone change) || keeps_stamp (map.get s.tree change.at) (map.get n.tree change.at))

-- What an undisturbed change leaves is this.
abbrev pub UndisturbedIsLeft : Type 0
UndisturbedIsLeft = (change : Change) (s n : RootState) → Leaves change s n → is_left s n change ≡ true
