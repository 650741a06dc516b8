use Rattle.std.proofs.Common.{ap, sym, ◌∙◌}
use Rattle.std.specs.FinMap as map
use Rattle.std.specs.Cmp.Lexicographic.{nat_list_cmp_total}
use Rattle.finite_maps.proofs.TreeMaps.{get-from_tree}
use Rattle.script_engine.proofs.name_map.NameMap.get.Goals as goal

pub returns : goal.returns
returns g c =
    c.get.ensures.value
    ∙ sym (get-from_tree nat_list_cmp_total c.self.inside.tree c.args.name.now)
    ∙ ap (λ m. map.get m c.args.name.now) c.self.view_is
