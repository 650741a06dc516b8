-- Which entries an operation may expect.
use Rattle.std.specs.Prelude.{Bool, true, false, Option, Some, None}
use Rattle.entry_tree.specs.declared.entry.Entry.{Entry}
use Rattle.entry_tree.specs.declared.entry.Entry.TheVariants.{Dir, File, Link, Other}

-- whether an entry is a file or a link, which alone are replaced
abbrev pub is_leaf : Entry → Bool
is_leaf Dir = false
is_leaf (File stamp exec) = true
is_leaf (Link text) = true
is_leaf Other = false

-- whether an entry is a file, which alone has an executable bit
abbrev pub is_file : Entry → Bool
is_file Dir = false
is_file (File stamp exec) = true
is_file (Link text) = false
is_file Other = false

-- whether a file is there
abbrev pub holds_file : Option Entry → Bool
holds_file None = false
holds_file (Some entry) = is_file entry
