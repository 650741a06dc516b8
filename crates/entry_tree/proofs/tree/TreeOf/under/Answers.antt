use Rattle.std.proofs.Common.{ap, sym, ◌∙◌, refl}
use Rattle.std.specs.List.{filter}
use Rattle.std.specs.declared.ops.Bound.TheVariants.{Included}
use Rattle.sync_path.specs.Path.{is_under}
use Rattle.sync_path.specs.PathOrder.{path_cmp_total}
use Rattle.entry_tree.specs.Tree.{entries_under}
use Rattle.finite_maps.proofs.TreeMaps.{entries-from_tree}
use Rattle.entry_tree.proofs.Paths.{path_same}
use Rattle.entry_tree.proofs.Walks.{walk_meets, met_under}
use Rattle.entry_tree.proofs.tree.TreeOf.under.Goals as goal

pub returns-clause-rest : goal.returns-clause-rest
returns-clause-rest g c =
    let p = c.args.path.now in
    c.new.ensures.rest
    ∙ walk_meets (Included p) p refl c.self.inside.entries.entries c.new.ensures.ordered
    ∙ (λ i. filter (λ e. met_under p e.0 i) c.self.inside.entries.entries)
    ∙ ap (filter (λ e. is_under e.0 p)) (sym (entries-from_tree path_cmp_total path_same c.self.inside.entries c.new.ensures.ordered))
    ∙ ap (λ m. entries_under m p) c.self.view_is
