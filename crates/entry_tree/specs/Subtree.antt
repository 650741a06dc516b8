-- The subtree of a tree at a path.
use Rattle.std.specs.FinMap as map
use Rattle.sync_path.specs.Path.{is_under}
use Rattle.entry_tree.specs.Tree.{Names, ByPath}

-- what a tree holds at and below a path, each entry by its whole path
abbrev pub subtree : {X : Type 0} → ByPath X → Names → ByPath X
subtree tree path = map.retain_keys tree (λ q. is_under q path)
