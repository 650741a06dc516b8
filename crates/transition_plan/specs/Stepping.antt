-- The steps of a change: its operations in their fixed order, each with the line that it gives the ancestor once it is done.
use Rattle.std.specs.Prelude.{ℕ, Bool, true, false, ◌&&◌, List, ◌++◌, reverse, Option, Some, None, if◌then◌else◌}
use Rattle.std.specs.FinMap as map
use Rattle.std.specs.List.{filter_map}
use Rattle.std.specs.Option.{option_map, option_and_then, option_to_list}
use Rattle.entry_tree.specs.Tree.{Names, ByPath}
use Rattle.entry_tree.specs.declared.atom.Atom.{Atom}
use Rattle.entry_tree.specs.declared.atom.Atom.TheVariants.{Dir, File, Link, Untracked, Problem}
use Rattle.entry_tree.specs.declared.entry.Entry.{Entry}
use Rattle.entry_tree.specs.declared.entry.Entry.TheVariants as entry
use Rattle.entry_tree.specs.declared.entry.Stamp.{Stamp}
use Rattle.mode_rules.specs.Placing.{sets_bit_alone}
use Rattle.mode_rules.specs.declared.ancestor_line.AncestorLine.TheVariants.{Set, Drop}
use Rattle.mode_rules.specs.declared.change.Change.{Change}
use Rattle.roots_api.specs.declared.op.Op.TheVariants.{Place, MakeDir, MakeLink, Remove, SetExec}
use Rattle.transition_plan.specs.declared.step.Step.{Step}

-- the file that a session expects at a path, with the stamp that was handed in; none where there is none
abbrev pub file_at : ByPath Stamp → Names → Bool → Option Entry
file_at stamps path executable = option_map (λ stamp. entry.File stamp executable) (map.get stamps path)

-- The entry that a session expects where it sees an atom. None of what the session leaves alone, and of a file with no stamp.
abbrev pub entry_of : ByPath Stamp → Names → Atom → Option Entry
entry_of stamps path Dir = Some entry.Dir
entry_of stamps path (File digest executable) = file_at stamps path executable
entry_of stamps path (Link text) = Some (entry.Link text)
entry_of stamps path Untracked = None
entry_of stamps path (Problem kind) = None

-- the same of a file or a link alone
abbrev pub leaf_of : ByPath Stamp → Names → Atom → Option Entry
leaf_of stamps path Dir = None
leaf_of stamps path (File digest executable) = file_at stamps path executable
leaf_of stamps path (Link text) = Some (entry.Link text)
leaf_of stamps path Untracked = None
leaf_of stamps path (Problem kind) = None

-- the step that takes away an entry
abbrev pub removed : Names → Entry → Step
removed path expected = record { op = Remove path expected; line = Drop path }

-- the step that takes away what a session sees at a path
abbrev pub removal : ByPath Stamp → Names × Atom → Option Step
removal stamps (path, atom) = option_map (removed path) (entry_of stamps path atom)

-- the step that makes an atom at a path, in place of what is expected there
abbrev pub creation : Option Entry → Names × Atom → Option Step
creation expected (path, Dir) = Some (record { op = MakeDir path; line = Set path Dir })
creation expected (path, File digest executable) =
    Some (record { op = Place path digest executable expected; line = Set path (File digest executable) })
creation expected (path, Link text) = Some (record { op = MakeLink path text expected; line = Set path (Link text) })
creation expected (path, Untracked) = None
creation expected (path, Problem kind) = None

-- the step that sets the executable bit of a file
abbrev pub bit_set : Names → List ℕ → Bool → Entry → Step
bit_set path digest on expected = record { op = SetExec path expected on; line = Set path (File digest on) }

-- the step that makes one file of another with the same content
abbrev pub bit_change : ByPath Stamp → Names → Option Atom → Option Atom → Option Step
bit_change stamps path (Some (File old was)) (Some (File digest on)) = option_map (bit_set path digest on) (file_at stamps path was)
bit_change stamps path old new = None

-- the step that replaces a file or a link by another
abbrev pub leaf_change : ByPath Stamp → Names → Option Atom → Option Atom → Option Step
leaf_change stamps path (Some old) (Some new) = option_and_then (λ (expected : Entry). creation (Some expected) (path, new)) (leaf_of stamps path old)
leaf_change stamps path old new = None

-- whether an atom is a file or a link
abbrev pub is_leaf : Option Atom → Bool
is_leaf (Some (File digest executable)) = true
is_leaf (Some (Link text)) = true
is_leaf atom = false

-- A file or a link stands at the change's path before and after it, and is replaced in one operation.
abbrev pub replaces_leaf : Change → Bool
replaces_leaf change = is_leaf (map.get change.old change.at) && is_leaf (map.get change.new change.at)

-- all that is tracked is removed, the last path first; then all is made that is to be there, in path order
abbrev pub whole_steps : ByPath Stamp → Change → List Step
whole_steps stamps change =
    reverse (filter_map (removal stamps) (map.entries change.old)) ++ filter_map (creation None) (map.entries change.new)

-- The steps of a change, in order. Where only a bit differs, one SetExec; else, where a file or a link replaces one, one Place or MakeLink; else all
-- removals and all creations.
abbrev pub steps_of : ByPath Stamp → Change → List Step
steps_of stamps change =
    if sets_bit_alone change then option_to_list (bit_change stamps change.at (map.get change.old change.at) (map.get change.new change.at)) else
    (if replaces_leaf change then option_to_list (leaf_change stamps change.at (map.get change.old change.at) (map.get change.new change.at)) else
    whole_steps stamps change)
