use Rattle.std.proofs.Common.{ap, sym, ◌∙◌}
use Rattle.std.specs.FinMap as map
use Rattle.sync_path.specs.PathOrder.{path_cmp_total}
use Rattle.finite_maps.proofs.TreeMaps.{entries-from_tree}
use Rattle.entry_tree.proofs.Paths.{path_same}
use Rattle.mode_rules.proofs.path_set.PathSet.iter.Goals as goal

pub returns : goal.returns
returns c =
    c.iter.ensures.rest
    ∙ sym (entries-from_tree path_cmp_total path_same c.self.inside.paths c.iter.ensures.ordered)
    ∙ ap map.entries c.self.view_is
