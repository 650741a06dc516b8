-- Which files a change places.
use Rattle.std.specs.Prelude.{Bool, false, List, [], bytes_eq, Option, Some, None, if◌then◌else◌}
use Rattle.std.specs.List.{filter_map}
use Rattle.std.specs.FinMap as trees
use Rattle.entry_tree.specs.Tree.{Names}
use Rattle.entry_tree.specs.declared.atom.Atom.{Atom}
use Rattle.entry_tree.specs.declared.atom.Atom.TheVariants.{Dir, File, Link, Untracked, Problem}
use Rattle.mode_rules.specs.declared.change.Change.{Change}
use Rattle.mode_rules.specs.declared.change.PlacedFile.{PlacedFile}

-- two files with one content
abbrev pub is_one_content : Option Atom → Option Atom → Bool
is_one_content (Some (File old x)) (Some (File new y)) = bytes_eq old new
is_one_content old new = false

-- A file with one content stands at the change's path before and after it: only its executable bit is changed, and no file is placed.
abbrev pub sets_bit_alone : Change → Bool
sets_bit_alone change = is_one_content (trees.get change.old change.at) (trees.get change.new change.at)

-- the file that an entry is, if it is one
abbrev pub placed_file : Names × Atom → Option PlacedFile
placed_file (path, Dir) = None
placed_file (path, File digest executable) = Some (record { path = path; digest = digest; executable = executable })
placed_file (path, Link text) = None
placed_file (path, Untracked) = None
placed_file (path, Problem kind) = None

-- the files that a change places, in path order
abbrev pub placed_files : Change → List PlacedFile
placed_files change = if sets_bit_alone change then [] else filter_map placed_file (trees.entries change.new)
