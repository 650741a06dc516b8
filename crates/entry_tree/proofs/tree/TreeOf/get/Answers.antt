use Rattle.std.proofs.Common.{ap, sym, ◌∙◌}
use Rattle.std.specs.FinMap as map
use Rattle.sync_path.specs.PathOrder.{path_cmp_total}
use Rattle.finite_maps.proofs.TreeMaps.{get-from_tree}
use Rattle.entry_tree.proofs.tree.TreeOf.get.Goals as goal

pub returns-clause-value : goal.returns-clause-value
returns-clause-value g c =
    c.get.ensures.value
    ∙ sym (get-from_tree path_cmp_total c.self.inside.entries c.args.path.now)
    ∙ ap (λ m. map.get m c.args.path.now) c.self.view_is
