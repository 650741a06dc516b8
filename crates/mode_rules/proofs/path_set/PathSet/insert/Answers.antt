use Rattle.std.proofs.Common.{ap, ◌∙◌}
use Rattle.std.specs.FinMap as map
use Rattle.sync_path.specs.PathOrder.{path_cmp_total}
use Rattle.finite_maps.proofs.TreeMaps.{insert-from_tree}
use Rattle.entry_tree.proofs.Paths.{path_same}
use Rattle.mode_rules.proofs.path_set.PathSet.insert.Goals as goal

pub returns : goal.returns
returns c = record {
  ok =
      insert-from_tree path_cmp_total path_same c.self.inside.paths c.insert.new.self c.args.path tt c.in_ok-insert.ensures.updates
      ∙ ap (λ m. map.insert m c.args.path tt) c.self.view_is;
}
