use Rattle.std.proofs.Common.{ℕ, List, ap, ◌∙◌}
use Rattle.std.specs.FinMap as map
use Rattle.std.specs.Cmp.Lexicographic.{nat_list_cmp_total}
use Rattle.finite_maps.proofs.TreeMaps.{insert-from_tree}
use Rattle.entry_tree.proofs.Paths.{name_same}
use Rattle.mem_roots.proofs.kept.Kept.insert.Goals as goal

pub returns-in-Ok-clause-ok : goal.returns-in-Ok-clause-ok
returns-in-Ok-clause-ok c =
    insert-from_tree nat_list_cmp_total name_same c.self.inside.files c.insert.new.self c.as_bytes.result.now c.args.file c.in-Ok.ensures.updates
    ∙ ap (λ (k : List ℕ). map.insert (map.from_entries c.self.inside.files.entries) k c.args.file) c.as_bytes.ensures.value
    ∙ ap (λ m. map.insert m c.args.digest.now c.args.file) c.self.view_is
