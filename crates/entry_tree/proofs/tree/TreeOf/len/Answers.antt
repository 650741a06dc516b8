use Rattle.std.proofs.Common.{ap, sym, ◌∙◌}
use Rattle.std.specs.FinMap as map
use Rattle.sync_path.specs.PathOrder.{path_cmp_total}
use Rattle.finite_maps.proofs.TreeMaps.{len-from_tree}
use Rattle.entry_tree.proofs.Paths.{path_same}
use Rattle.entry_tree.proofs.tree.TreeOf.len.Goals as goal

pub returns-clause-count : goal.returns-clause-count
returns-clause-count g c =
    c.len.ensures.len
    ∙ sym (len-from_tree path_cmp_total path_same c.self.inside.entries c.len.ensures.ordered)
    ∙ ap map.len c.self.view_is
