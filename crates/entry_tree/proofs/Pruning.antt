-- Taking what lies under a path out of the entries of a map.
use Rattle.std.proofs.Common.{◌≡◌, Bool, true, false, cond, not, ◌&&◌, List, [], ◌∷◌, refl, sym, ap, ◌∙◌, Option, Some, None, Ordering}
use Rattle.std.specs.Prelude.{IsSome}
use Rattle.std.specs.Option.{is_some}
use Rattle.std.specs.FinMap as map
use Rattle.std.specs.BTreeMap as tree
use Rattle.std.specs.List.{filter, list_any}
use Rattle.std.specs.List.Sorted.{IsStrictlySortedBy}
use Rattle.std.specs.Map.{keys_of, remove_entry}
use Rattle.std.specs.BTreeMap.{BTreeMap, UpdatesBy, is_at}
use Rattle.std.specs.BTreeMap.Range.{entries_between}
use Rattle.std.specs.Ordering.{is_eq, is_le, is_lt}
use Rattle.std.specs.declared.ops.Bound.TheVariants.{Excluded, Unbounded}
use Rattle.std.specs.declared.cmp.Ordering.TheVariants.{Less, Equal, Greater}
use Rattle.finite_maps.proofs.TreeMaps.{get-from_tree}
use Rattle.sync_path.specs.Path.{path_cmp, is_under}
use Rattle.sync_path.specs.PathOrder.{path_cmp_total}
use Rattle.entry_tree.specs.Tree.{Names, is_below, IsClosed, without_under}
use Rattle.entry_tree.specs.Walk.{front_under}
use Rattle.entry_tree.proofs.Maps.{alike, retain-from_filter}
use Rattle.entry_tree.proofs.Paths.{path_same, tied, below_is, under_le, under_itself}
use Rattle.entry_tree.proofs.Trees.{nothing_under}
use Rattle.entry_tree.proofs.Walks.{walk_meets, met_below}

module _ {X : Type 0} (p : Names) where
  -- a walk from behind a path on meets what lies below it
  pub below_walk : (es : List (Names × X)) → IsStrictlySortedBy path_cmp (keys_of es) → front_under p (entries_between path_cmp (Excluded p) Unbounded es) ≡ filter (λ e. is_below e.0 p) es
  below_walk es sorted = walk_meets (Excluded p) p refl es sorted ∙ (λ i. filter (λ e. met_below p e.0 i) es)

  -- an entry below the path may go before all such entries do
  pub goes_first : (k : Names) → is_below k p ≡ true → (es : List (Names × X)) → filter (λ e. not (is_below e.0 p)) (remove_entry (is_at (path_cmp k)) es) ≡ filter (λ e. not (is_below e.0 p)) es
  goes_first k below [] = refl
  goes_first k below (e ∷ es) =
      let kept = filter (λ (x : Names × X). not (is_below x.0 p)) in
      elim (is_eq (path_cmp k e.0)) as (λ b. is_eq (path_cmp k e.0) ≡ b → kept (cond b es (e ∷ remove_entry (is_at (path_cmp k)) es)) ≡ kept (e ∷ es)) [
        | true ↦ λ h. sym (ap (λ b. cond (not b) (e ∷ kept es) (kept es)) (ap (λ q. is_below q p) (sym (path_same k e.0 (tied (path_cmp k e.0) h))) ∙ below))
        | false ↦ λ h. ap (λ l. cond (not (is_below e.0 p)) (e ∷ l) l) (goes_first k below es)
      ] refl

-- what begins a list of what passes a test passes it
pub first_passes : {A : Type 0} (test : A → Bool) (es : List A) (e : A) (rest : List A) → filter test es ≡ e ∷ rest → test e ≡ true
first_passes test [] e rest h = absurd (cc)
first_passes test (x ∷ es) e rest h =
    elim (test x) as (λ b. test x ≡ b → cond b (x ∷ filter test es) (filter test es) ≡ e ∷ rest → test e ≡ true) [
      | true ↦ λ t g. let same : x ≡ e = cc in ap test (sym same) ∙ t
      | false ↦ λ _ g. first_passes test es e rest g
    ] refl h

-- where none goes, all stay
pub none_goes : {A : Type 0} (gone : A → Bool) (es : List A) → list_any gone es ≡ false → filter (λ e. not (gone e)) es ≡ es
none_goes gone [] h = refl
none_goes gone (e ∷ es) h =
    elim (gone e) as (λ b. Rattle.std.proofs.Common.◌||◌ b (list_any gone es) ≡ false → cond (not b) (e ∷ filter (λ x. not (gone x)) es) (filter (λ x. not (gone x)) es) ≡ e ∷ es) [
      | true ↦ λ g. absurd (cc)
      | false ↦ λ g. ap (λ l. e ∷ l) (none_goes gone es g)
    ] h

over : (r : Ordering) (b : Bool) → is_eq r ≡ false → (b ≡ true → is_le r ≡ true) → (is_lt r && b) ≡ b
over Less b h le = refl
over Equal b h le = absurd (cc)
over Greater true h le = let e : is_le Greater ≡ true = le refl in absurd (cc)
over Greater false h le = refl

none_either : {A : Type 0} (b : Bool) → ◌≡◌ {A = Option A} (cond b None None) None
none_either true = refl
none_either false = refl

-- another path lies below a path where it lies under it
apart_alike : (q p : Names) → is_eq (path_cmp p q) ≡ false → is_below q p ≡ is_under q p
apart_alike q p h = below_is q p ∙ over (path_cmp p q) (is_under q p) h (under_le q p)

module _ {X : Type 0} where
  -- without the path's own entry and those below it, a map has nothing under the path
  pub without_top : (m n : BTreeMap Names X) (p : Names) → UpdatesBy path_cmp (path_cmp p) m n None → (es : List (Names × X)) → es ≡ filter (λ e. not (is_below e.0 p)) n.entries
      → map.from_entries {R = path_cmp} es ≡ without_under (map.from_entries m.entries) p
  without_top m n p u es left =
      ap map.from_entries left
      ∙ retain-from_filter path_cmp_total path_same (λ q. not (is_below q p)) n.entries
      ∙ map.same_map path_cmp_total path_same (map.retain_keys (map.from_entries n.entries) (λ q. not (is_below q p))) (without_under (map.from_entries m.entries) p)
      (λ q. map.get-retain_keys (map.from_entries n.entries) (λ k. not (is_below k p)) q (alike path_same (λ k. not (is_below k p)) q)
      ∙ ap (λ o. cond (not (is_below q p)) o None) (get-from_tree path_cmp_total n q ∙ u.0 q)
      ∙ elim (is_eq (path_cmp p q)) as (λ b. is_eq (path_cmp p q) ≡ b → cond (not (is_below q p)) (cond b None (tree.get path_cmp m q)) None ≡ cond (not (is_under q p)) (tree.get path_cmp m q) None) [
        | true ↦ λ h. none_either (not (is_below q p)) ∙ ap (λ b. cond (not b) (tree.get path_cmp m q) None) (sym (ap (λ k. is_under k p) (sym (path_same p q (tied (path_cmp p q) h))) ∙ under_itself p))
        | false ↦ λ h. ap (λ b. cond (not b) (tree.get path_cmp m q) None) (apart_alike q p h)
      ] refl
      ∙ sym (map.get-retain_keys (map.from_entries m.entries) (λ k. not (is_under k p)) q (alike path_same (λ k. not (is_under k p)) q) ∙ ap (λ o. cond (not (is_under q p)) o None) (get-from_tree path_cmp_total m q)))

  -- what is taken out where something stood at the path, of a tree closed under parents, is all that lies under it
  pub taken_under : (is_folder : X → Bool) (m n : BTreeMap Names X) (p : Names) → IsClosed is_folder (map.from_entries m.entries)
      → (IsSome (tree.get path_cmp m p) → map.from_entries {R = path_cmp} n.entries ≡ without_under (map.from_entries m.entries) p)
      → (tree.get path_cmp m p ≡ None → n.entries ≡ m.entries) → map.from_entries {R = path_cmp} n.entries ≡ without_under (map.from_entries m.entries) p
  taken_under is_folder m n p closed held absent =
      elim (tree.get path_cmp m p) as (λ o. tree.get path_cmp m p ≡ o → map.from_entries {R = path_cmp} n.entries ≡ without_under (map.from_entries m.entries) p) [
        | Some x ↦ λ e. held (ap is_some e)
        | None ↦ λ e. ap map.from_entries (absent e) ∙ sym (nothing_under is_folder (map.from_entries m.entries) closed p (get-from_tree path_cmp_total m p ∙ e))
      ] refl
