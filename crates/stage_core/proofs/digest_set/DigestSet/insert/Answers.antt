use Rattle.std.proofs.Common.{ℕ, List, ap, ◌∙◌}
use Rattle.std.specs.FinMap as map
use Rattle.std.specs.Cmp.Lexicographic.{nat_list_cmp_total}
use Rattle.finite_maps.proofs.TreeMaps.{insert-from_tree}
use Rattle.entry_tree.proofs.Paths.{name_same}
use Rattle.stage_core.proofs.digest_set.DigestSet.insert.Goals as goal

pub returns-clause-ok : goal.returns-clause-ok
returns-clause-ok c =
    insert-from_tree nat_list_cmp_total name_same c.self.inside.digests c.insert.new.self c.as_bytes.result.now tt c.in_ok-insert.ensures.updates
    ∙ ap (λ (k : List ℕ). map.insert (map.from_entries c.self.inside.digests.entries) k tt) c.as_bytes.ensures.value
    ∙ ap (λ m. map.insert m c.args.digest.now tt) c.self.view_is
