-- What holds of each tree that a scan has seen.
use Rattle.std.specs.Prelude.{◌≡◌, Bool, true, false, Option, Some, None, is_some}
use Rattle.std.specs.FinMap as map
use Rattle.entry_tree.specs.Atom.{is_dir}
use Rattle.entry_tree.specs.Tree.{Names, IsClosed}
use Rattle.entry_tree.specs.declared.atom.Atom.{Atom}
use Rattle.entry_tree.specs.declared.atom.Atom.TheVariants.{Dir, File, Link, Untracked, Problem}
use Rattle.scan_core.specs.Scan.{ScanTold, state_of, IsTaken}

-- whether a file is seen
abbrev pub is_file : Option Atom → Bool
is_file None = false
is_file (Some Dir) = false
is_file (Some (File digest exec)) = true
is_file (Some (Link text)) = false
is_file (Some Untracked) = false
is_file (Some (Problem kind)) = false

-- what is seen is closed under parents, so nothing is seen below an atom other than a folder
abbrev pub SeenIsClosed : Type 0
SeenIsClosed = (m : ScanTold) → IsTaken m → IsClosed is_dir (state_of m).board.seen

-- just the paths that are seen as files have a stamp
abbrev pub StampsAreOfFiles : Type 0
StampsAreOfFiles =
    (m : ScanTold) → IsTaken m → (q : Names) → is_some (map.get (state_of m).board.stamps q) ≡ is_file (map.get (state_of m).board.seen q)
