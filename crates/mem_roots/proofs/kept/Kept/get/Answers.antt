use Rattle.std.proofs.Common.{ap, sym, ◌∙◌}
use Rattle.std.specs.BTreeMap as tree
use Rattle.std.specs.FinMap as map
use Rattle.std.specs.Cmp.Lexicographic.{slice_cmp, nat_list_cmp_total}
use Rattle.std.specs.Ordering.{nat_cmp}
use Rattle.finite_maps.proofs.TreeMaps.{get-from_tree}
use Rattle.mem_roots.proofs.kept.Kept.get.Goals as goal

pub returns : goal.returns
returns c =
    c.get.ensures.value
    ∙ ap (tree.get (slice_cmp nat_cmp) c.self.inside.files) c.as_bytes.ensures.value
    ∙ sym (get-from_tree nat_list_cmp_total c.self.inside.files c.args.digest.now)
    ∙ ap (λ m. map.get m c.args.digest.now) c.self.view_is
