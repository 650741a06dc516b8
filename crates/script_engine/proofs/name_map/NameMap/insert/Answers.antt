use Rattle.std.proofs.Common.{ap, ◌∙◌}
use Rattle.std.specs.FinMap as map
use Rattle.std.specs.Cmp.Lexicographic.{nat_list_cmp_total}
use Rattle.std.proofs.lemmas.Map.Lookups.{exact_bytes}
use Rattle.finite_maps.proofs.TreeMaps.{insert-from_tree}
use Rattle.script_engine.proofs.name_map.NameMap.insert.Goals as goal

pub returns-clause-ok : goal.returns-clause-ok
returns-clause-ok g c =
    insert-from_tree nat_list_cmp_total exact_bytes c.self.inside.tree c.insert.new.self c.args.name c.args.value c.in_ok-insert.ensures.updates
    ∙ ap (λ m. map.insert m c.args.name c.args.value) c.self.view_is
