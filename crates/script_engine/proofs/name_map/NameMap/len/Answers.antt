use Rattle.std.proofs.Common.{ap, sym, ◌∙◌}
use Rattle.std.specs.FinMap as map
use Rattle.std.specs.Cmp.Lexicographic.{nat_list_cmp_total}
use Rattle.std.proofs.lemmas.Map.Lookups.{exact_bytes}
use Rattle.finite_maps.proofs.TreeMaps.{len-from_tree}
use Rattle.script_engine.proofs.name_map.NameMap.len.Goals as goal

pub returns-clause-count : goal.returns-clause-count
returns-clause-count g c =
    c.len.ensures.len
    ∙ sym (len-from_tree nat_list_cmp_total exact_bytes c.self.inside.tree c.len.ensures.ordered)
    ∙ ap map.len c.self.view_is
