use Rattle.std.proofs.Common.{ap, ◌∙◌}
use Rattle.std.specs.FinMap as map
use Rattle.std.specs.FinMap.{nat_cmp-IsAntisymmetric}
use Rattle.std.specs.Cmp.{nat_cmp_total}
use Rattle.finite_maps.proofs.TreeMaps.{remove-from_tree}
use Rattle.mem_roots.proofs.staging.Staging.clear.Goals as goal

pub returns : goal.returns
returns c =
    remove-from_tree nat_cmp_total nat_cmp-IsAntisymmetric c.self.inside.sessions c.remove.new.self c.args.id c.remove.ensures.updates
    ∙ ap (λ m. map.remove m c.args.id) c.self.view_is
