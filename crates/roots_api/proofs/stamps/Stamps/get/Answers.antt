use Rattle.std.proofs.Common.{ap, sym, ◌∙◌}
use Rattle.std.specs.FinMap as map
use Rattle.sync_path.specs.PathOrder.{path_cmp_total}
use Rattle.finite_maps.proofs.TreeMaps.{get-from_tree}
use Rattle.roots_api.proofs.stamps.Stamps.get.Goals as goal

pub returns : goal.returns
returns c =
    c.copied.ensures
    ∙ c.get.ensures.value
    ∙ sym (get-from_tree path_cmp_total c.self.inside.map c.args.path.now)
    ∙ ap (λ m. map.get m c.args.path.now) c.self.view_is
