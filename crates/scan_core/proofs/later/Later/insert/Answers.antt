use Rattle.std.proofs.Common.{ap, ◌∙◌}
use Rattle.std.specs.FinMap as map
use Rattle.sync_path.specs.PathOrder.{path_cmp_total}
use Rattle.entry_tree.proofs.Paths.{path_same}
use Rattle.finite_maps.proofs.TreeMaps.{insert-from_tree}
use Rattle.scan_core.proofs.later.Later.insert.Goals as goal

pub returns : goal.returns
returns c =
    insert-from_tree path_cmp_total path_same c.self.inside.map c.insert.new.self c.args.path c.args.wanted c.in_ok-insert.ensures.updates
    ∙ ap (λ m. map.insert m c.args.path c.args.wanted) c.self.view_is
