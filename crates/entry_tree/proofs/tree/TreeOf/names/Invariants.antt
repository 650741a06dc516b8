use Rattle.std.proofs.Common.{◌≡◌, ◌++◌, map}
use Rattle.std.specs.Vec.Iter.{into_iter_items}
use Rattle.entry_tree.specs.Tree.{names_below}
use Rattle.entry_tree.proofs.tree.TreeOf.names.Given as goal

-- the names so far, and those of the children that are left, are all
abbrev pub invariant-loop-child : goal.invariant-loop-child
invariant-loop-child g l = l.names.items ++ map (λ row. row.0) (into_iter_items l.child-iterator) ≡ names_below l.self l.path
