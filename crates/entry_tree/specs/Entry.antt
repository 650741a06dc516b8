-- Which entries are folders, which are links, and which are tracked.
use Rattle.std.specs.Prelude.{Bool, true, false}
use Rattle.entry_tree.specs.declared.entry.Entry.{Entry}
use Rattle.entry_tree.specs.declared.entry.Entry.TheVariants.{Dir, File, Link, Other}

-- whether an entry is a folder
abbrev pub is_dir : Entry → Bool
is_dir Dir = true
is_dir (File stamp executable) = false
is_dir (Link text) = false
is_dir Other = false

-- whether an entry is a link
abbrev pub is_link : Entry → Bool
is_link Dir = false
is_link (File stamp executable) = false
is_link (Link text) = true
is_link Other = false

-- whether an entry is tracked: a folder, a file or a link
abbrev pub is_tracked : Entry → Bool
is_tracked Dir = true
is_tracked (File stamp executable) = true
is_tracked (Link text) = true
is_tracked Other = false
