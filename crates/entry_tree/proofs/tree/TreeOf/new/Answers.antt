use Rattle.std.proofs.Common.{ap, sym, subst}
use Rattle.std.specs.FinMap as map
use Rattle.entry_tree.specs.Tree.{IsClosed}
use Rattle.entry_tree.proofs.Trees.{closed_empty}
use Rattle.entry_tree.proofs.tree.TreeOf.new.Goals as goal

pub invariant_of-result : goal.invariant_of-result
invariant_of-result g c =
    subst (IsClosed g.T.Node.is_folder) (sym (ap map.from_entries c.new.ensures.empty)) (closed_empty g.T.Node.is_folder)
