use Rattle.std.proofs.Common.{ap, sym, subst, ◌∙◌}
use Rattle.std.specs.FinMap as map
use Rattle.std.specs.List.Sorted.{IsStrictlySortedBy}
use Rattle.std.specs.Map.{keys_of}
use Rattle.sync_path.specs.Path.{path_cmp}
use Rattle.entry_tree.proofs.Subtrees.{under_sorted, subtree_is}
use Rattle.entry_tree.proofs.tree.TreeOf.subtree.Goals as goal

pub from_entries-requires : goal.from_entries-requires
from_entries-requires g c =
    subst (λ es. IsStrictlySortedBy path_cmp (keys_of es)) (sym (c.in_ok-entries.ensures ∙ c.under.ensures.rest))
    (under_sorted c.args.self.now c.args.path.now)

pub returns : goal.returns
returns g c =
    c.from_entries.ensures
    ∙ ap map.from_entries (c.in_ok-entries.ensures ∙ c.under.ensures.rest)
    ∙ subtree_is c.args.self.now c.args.path.now
