use Rattle.entry_tree.proofs.Rows.{rows_of_tree}
use Rattle.entry_tree.proofs.tree.TreeOf.children.Goals as goal

pub returns : goal.returns
returns g c = rows_of_tree (λ v. v.items) c.args.path.now c.self.inside.entries c.args.self.now c.children_in.result c.children_in.ensures.rows c.children_in.ensures.ordered c.self.view_is
