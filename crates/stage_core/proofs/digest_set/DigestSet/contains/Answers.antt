use Rattle.std.proofs.Common.{ap, sym, ◌∙◌}
use Rattle.std.specs.BTreeMap as tree
use Rattle.std.specs.FinMap as map
use Rattle.std.specs.Cmp.Lexicographic.{slice_cmp, nat_list_cmp_total}
use Rattle.std.specs.Ordering.{nat_cmp}
use Rattle.finite_maps.proofs.TreeMaps.{get-from_tree}
use Rattle.finite_maps.proofs.MapLoops.{contains_key-from_get}
use Rattle.stage_core.proofs.digest_set.DigestSet.contains.Goals as goal

pub returns : goal.returns
returns c =
    c.is_some.ensures
    ∙ sym (contains_key-from_get c.args.self.now c.args.digest.now c.get.result
    (c.get.ensures.value
    ∙ ap (tree.get (slice_cmp nat_cmp) c.self.inside.digests) c.as_bytes.ensures.value
    ∙ sym (get-from_tree nat_list_cmp_total c.self.inside.digests c.args.digest.now)
    ∙ ap (λ m. map.get m c.args.digest.now) c.self.view_is))
