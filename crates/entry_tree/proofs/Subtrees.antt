-- The entries of a subtree.
use Rattle.std.proofs.Common.{◌≡◌, sym, ◌∙◌}
use Rattle.std.specs.FinMap as map
use Rattle.std.specs.FinMap.Entries.{is_sorted-where_key}
use Rattle.std.specs.List.Sorted.{IsStrictlySortedBy}
use Rattle.std.specs.Map.{keys_of}
use Rattle.sync_path.specs.Path.{path_cmp, is_under}
use Rattle.sync_path.specs.PathOrder.{path_cmp_total}
use Rattle.finite_maps.proofs.SortedLists.{sorted-from_is_sorted}
use Rattle.entry_tree.specs.Subtree.{subtree}
use Rattle.entry_tree.specs.Tree.{Names, ByPath, entries_under}
use Rattle.entry_tree.proofs.Copies.{find-under}
use Rattle.entry_tree.proofs.Maps.{alike}
use Rattle.entry_tree.proofs.Paths.{path_same}

module _ {X : Type 0} (tree : ByPath X) (path : Names) where
  -- the entries at and below a path are in order
  pub under_sorted : IsStrictlySortedBy path_cmp (keys_of (entries_under tree path))
  under_sorted = sorted-from_is_sorted path_cmp (entries_under tree path) (is_sorted-where_key path_cmp (λ q. is_under q path) (map.entries tree) (map.entries_sorted tree))

  -- and they make the subtree there
  pub subtree_is : map.from_entries {R = path_cmp} (entries_under tree path) ≡ subtree tree path
  subtree_is =
      map.same_map path_cmp_total path_same _ _
      (λ q. map.get-from_entries path_cmp_total (entries_under tree path) q
      ∙ find-under tree path q
      ∙ sym (map.get-retain_keys tree (λ p. is_under p path) q (alike path_same (λ p. is_under p path) q)))
