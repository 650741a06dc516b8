use Rattle.std.proofs.Common.{ap, sym, ◌∙◌}
use Rattle.std.specs.FinMap as map
use Rattle.sync_path.specs.PathOrder.{path_cmp_total}
use Rattle.finite_maps.proofs.SortedLists.{entries-from_list}
use Rattle.entry_tree.proofs.Paths.{path_same}
use Rattle.entry_tree.proofs.subtree.SubtreeOf.entries.Goals as goal

pub returns : goal.returns
returns g c =
    c.as_slice.ensures.value
    ∙ sym (entries-from_list path_cmp_total path_same c.self.inside.entries.items c.self.invariant)
    ∙ ap map.entries c.self.view_is
