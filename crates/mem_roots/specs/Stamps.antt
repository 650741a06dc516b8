-- The stamp of a file that was found.
use Rattle.std.specs.Prelude.{◌≡◌, Bool, Option, Some}
use Rattle.entry_tree.specs.declared.entry.Entry.{Entry}
use Rattle.entry_tree.specs.declared.entry.Entry.TheVariants.{File}
use Rattle.entry_tree.specs.declared.entry.Stamp.{Stamp}

-- a file with this stamp was found
abbrev pub IsStampOf : Option Entry → Stamp → Type 0
IsStampOf found stamp = (exec : Bool) × (found ≡ Some (File stamp exec))
