use Rattle.std.proofs.Common.{List, ℕ, ◌++◌, ap, ◌∙◌, map}
use Rattle.std.specs.FinMap as finite
use Rattle.std.specs.Vec.Iter.{into_iter_items}
use Rattle.entry_tree.proofs.Rows.{names_of_rows}
use Rattle.entry_tree.proofs.tree.TreeOf.names.Goals as goal

pub loop-child-init : goal.loop-child-init
loop-child-init g c =
    ap (λ ns. ns ++ map (λ row. row.0) (into_iter_items c.into_iter-child-iterator.result)) c.new-names.ensures.items
    ∙ ap (map (λ (row : List ℕ × g.row.T.Denot). row.0)) (c.into_iter-child-iterator.ensures.into_iter_gives.0 ∙ c.in_ok-child-items.ensures)
    ∙ names_of_rows c.args.path.now (finite.entries c.args.self.now)
