-- What listings tell of a tree.
use Rattle.std.specs.Prelude.{◌≡◌, true, []}
use Rattle.std.specs.FinMap as map
use Rattle.entry_tree.specs.Entry.{is_dir}
use Rattle.entry_tree.specs.Tree.{Names, ByPath, IsClosed, holds_folder, children_below}
use Rattle.entry_tree.specs.declared.entry.Entry.{Entry}

-- two closed trees with the same root and the same children in each folder are equal
abbrev pub ListingsTell : Type 0
ListingsTell =
    (one other : ByPath Entry) → IsClosed is_dir one → IsClosed is_dir other → map.get one [] ≡ map.get other []
    → ((path : Names) → holds_folder is_dir (map.get one path) ≡ true → children_below one path ≡ children_below other path) → one ≡ other
