use Rattle.std.proofs.Common.{ap, ◌∙◌}
use Rattle.std.specs.FinMap as map
use Rattle.std.specs.FinMap.{nat_cmp-IsAntisymmetric}
use Rattle.std.specs.Cmp.{nat_cmp_total}
use Rattle.finite_maps.proofs.TreeMaps.{insert-from_tree}
use Rattle.mem_roots.specs.Staging.{staged_after}
use Rattle.mem_roots.proofs.staging.Staging.begin.Goals as goal

pub returns-clause-ok : goal.returns-clause-ok
returns-clause-ok c =
    insert-from_tree nat_cmp_total nat_cmp-IsAntisymmetric c.self.inside.sessions c.insert.new.self c.args.id c.apply.new.self c.in_ok-insert.ensures.updates
    ∙ ap (λ m. map.insert m c.args.id c.apply.new.self) c.self.view_is
    ∙ ap (map.insert c.args.self.now c.args.id) (c.in_ok-apply.ensures.ok ∙ ap (staged_after c.args.op.now c.args.is_done) c.new-staged.ensures)
