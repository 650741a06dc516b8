-- What `set` leaves of the map behind a tree.
use Rattle.std.proofs.Common.{◌≡◌, Bool, true, false, not, List, ap, ◌∙◌, Some, None}
use Rattle.std.specs.FinMap as map
use Rattle.std.specs.BTreeMap.{BTreeMap, Updates}
use Rattle.std.specs.List.{filter}
use Rattle.sync_path.specs.Path.{path_cmp}
use Rattle.sync_path.specs.PathOrder.{path_cmp_total}
use Rattle.entry_tree.specs.Tree.{Names, ByPath, is_below, set_at, IsClosed}
use Rattle.finite_maps.proofs.TreeMaps.{insert-from_tree}
use Rattle.entry_tree.proofs.Maps.{retain-from_filter}
use Rattle.entry_tree.proofs.Paths.{path_same}
use Rattle.entry_tree.proofs.Trees.{set_as_folder, set_as_leaf, set_anew}

module _ {X : Type 0} (is_folder : X → Bool) (m n : BTreeMap Names X) (p : Names) (x : X) (put : Updates path_cmp m n p (Some x)) where
  pub folder_set : is_folder x ≡ true → map.from_entries {R = path_cmp} n.entries ≡ set_at is_folder (map.from_entries m.entries) p x
  folder_set h = insert-from_tree path_cmp_total path_same m n p x put ∙ set_as_folder is_folder (map.from_entries m.entries) p x h

  pub leaf_set : (es : List (Names × X)) → es ≡ filter (λ e. not (is_below e.0 p)) n.entries → is_folder x ≡ false
      → map.from_entries {R = path_cmp} es ≡ set_at is_folder (map.from_entries m.entries) p x
  leaf_set es left h =
      ap map.from_entries left
      ∙ retain-from_filter path_cmp_total path_same (λ q. not (is_below q p)) n.entries
      ∙ ap (λ (t : ByPath X). map.retain_keys t (λ q. not (is_below q p))) (insert-from_tree path_cmp_total path_same m n p x put)
      ∙ set_as_leaf is_folder (map.from_entries m.entries) p x h

  pub anew_set : IsClosed is_folder (map.from_entries m.entries) → map.get (map.from_entries {R = path_cmp} m.entries) p ≡ None → map.from_entries {R = path_cmp} n.entries ≡ set_at is_folder (map.from_entries m.entries) p x
  anew_set closed none = insert-from_tree path_cmp_total path_same m n p x put ∙ set_anew is_folder (map.from_entries m.entries) closed p x none
