use Rattle.std.proofs.Common.{◌≡◌, ◌++◌, true, length}
use Rattle.std.specs.List.{filter_map}
use Rattle.sync_path.specs.Path.{is_under}
use Rattle.entry_tree.specs.Tree.{child_row}
use Rattle.entry_tree.specs.Walk.{left_behind}
use Rattle.entry_tree.proofs.child.children_in.Given as goal

-- the children so far, and those that are left, are all
abbrev pub invariant-loop-below : goal.invariant-loop-below
invariant-loop-below g l =
    (is_under l.at l.path ≡ true)
    × (l.children.items ++ filter_map (child_row l.path) (left_behind l.path l.at l.map.entries) ≡ filter_map (child_row l.path) l.map.entries)

abbrev pub decreases-loop-below : goal.decreases-loop-below
decreases-loop-below g l = length (left_behind l.path l.at l.map.entries)
