use Rattle.std.proofs.Common.{ap, sym, subst, ◌∙◌, ◌<◌, ◌^◌, ℕ}
use Rattle.std.specs.FinMap as map
use Rattle.std.specs.Cmp.Lexicographic.{nat_list_cmp_total}
use Rattle.std.proofs.lemmas.Map.Lookups.{exact_bytes}
use Rattle.finite_maps.proofs.TreeMaps.{entries-from_tree, len-from_tree}
use Rattle.script_engine.proofs.name_map.NameMap.iter.Goals as goal

pub returns-clause-rest : goal.returns-clause-rest
returns-clause-rest g c =
    c.iter.ensures.rest
    ∙ sym (entries-from_tree nat_list_cmp_total exact_bytes c.self.inside.tree c.iter.ensures.ordered)
    ∙ ap map.entries c.self.view_is

pub returns-clause-small : goal.returns-clause-small
returns-clause-small g c =
    subst (λ (n : ℕ). n < 2 ^ 63)
    (sym (len-from_tree nat_list_cmp_total exact_bytes c.self.inside.tree c.iter.ensures.ordered) ∙ ap map.len c.self.view_is)
    c.iter.ensures.fits
