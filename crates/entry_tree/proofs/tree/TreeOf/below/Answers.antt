use Rattle.std.proofs.Common.{ap, sym, ◌∙◌, refl}
use Rattle.std.specs.List.{filter}
use Rattle.std.specs.declared.ops.Bound.TheVariants.{Excluded}
use Rattle.entry_tree.specs.Tree.{is_below}
use Rattle.sync_path.specs.PathOrder.{path_cmp_total}
use Rattle.entry_tree.specs.Tree.{entries_below}
use Rattle.finite_maps.proofs.TreeMaps.{entries-from_tree}
use Rattle.entry_tree.proofs.Paths.{path_same}
use Rattle.entry_tree.proofs.Walks.{walk_meets, met_below}
use Rattle.entry_tree.proofs.tree.TreeOf.below.Goals as goal

pub returns-clause-rest : goal.returns-clause-rest
returns-clause-rest g c =
    let p = c.args.path.now in
    c.new.ensures.rest
    ∙ walk_meets (Excluded p) p refl c.self.inside.entries.entries c.new.ensures.ordered
    ∙ (λ i. filter (λ e. met_below p e.0 i) c.self.inside.entries.entries)
    ∙ ap (filter (λ e. is_below e.0 p)) (sym (entries-from_tree path_cmp_total path_same c.self.inside.entries c.new.ensures.ordered))
    ∙ ap (λ m. entries_below m p) c.self.view_is
