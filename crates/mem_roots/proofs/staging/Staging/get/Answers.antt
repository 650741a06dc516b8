use Rattle.std.proofs.Common.{ap, sym, ◌∙◌}
use Rattle.std.specs.FinMap as map
use Rattle.std.specs.Cmp.{nat_cmp_total}
use Rattle.finite_maps.proofs.TreeMaps.{get-from_tree}
use Rattle.mem_roots.proofs.staging.Staging.get.Goals as goal

pub returns : goal.returns
returns c =
    c.get.ensures.value
    ∙ sym (get-from_tree nat_cmp_total c.self.inside.sessions c.args.id)
    ∙ ap (λ m. map.get m c.args.id) c.self.view_is
