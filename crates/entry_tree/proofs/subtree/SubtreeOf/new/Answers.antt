use Rattle.std.proofs.Common.{sym, subst}
use Rattle.std.specs.List.Sorted.{IsStrictlySortedBy}
use Rattle.std.specs.Map.{keys_of}
use Rattle.sync_path.specs.Path.{path_cmp}
use Rattle.entry_tree.proofs.subtree.SubtreeOf.new.Goals as goal

pub invariant_of-result : goal.invariant_of-result
unfolding IsStrictlySortedBy
invariant_of-result g c = subst (λ es. IsStrictlySortedBy path_cmp (keys_of es)) (sym c.new.ensures.items) tt
