use Rattle.std.proofs.Common.{ap, sym, subst, ◌∙◌, ◌<◌, ◌^◌, ℕ}
use Rattle.std.specs.FinMap as map
use Rattle.sync_path.specs.PathOrder.{path_cmp_total}
use Rattle.finite_maps.proofs.TreeMaps.{entries-from_tree, len-from_tree}
use Rattle.entry_tree.proofs.Paths.{path_same}
use Rattle.entry_tree.proofs.tree.TreeOf.iter.Goals as goal

pub returns-clause-rest : goal.returns-clause-rest
returns-clause-rest g c =
    c.iter.ensures.rest
    ∙ sym (entries-from_tree path_cmp_total path_same c.self.inside.entries c.iter.ensures.ordered)
    ∙ ap map.entries c.self.view_is

pub returns-clause-small : goal.returns-clause-small
returns-clause-small g c =
    subst (λ (n : ℕ). n < 2 ^ 63)
    (sym (len-from_tree path_cmp_total path_same c.self.inside.entries c.iter.ensures.ordered) ∙ ap map.len c.self.view_is)
    c.iter.ensures.fits
