-- Two closed trees with the same listings are one.
use Rattle.std.proofs.Common.{◌≡◌, inl, inr, ℕ, ◌+◌, ◌<◌, zero, suc, true, false, cond, List, [], ◌∷◌, ◌++◌, length, refl, sym, ap, ◌∙◌, Option, Some, None, arith, length-append}
use Rattle.std.specs.FinMap as map
use Rattle.std.specs.Prelude.{is_some}
use Rattle.std.specs.Cmp.Lexicographic.{slice_cmp}
use Rattle.std.specs.List.{filter_map, cons_option}
use Rattle.std.specs.Option.{option_map}
use Rattle.std.specs.Ordering.{nat_cmp, is_eq, eq_by_cmp}
use Rattle.sync_path.specs.Path.{path_cmp}
use Rattle.sync_path.specs.PathOrder.{path_cmp_total}
use Rattle.entry_tree.specs.Entry.{is_dir}
use Rattle.entry_tree.specs.Tree.{Names, ByPath, IsClosed, holds_folder, name_below, child_row, children_below}
use Rattle.entry_tree.specs.declared.entry.Entry.{Entry}
use Rattle.entry_tree.proofs.Paths.{path_same, name_itself}
use Rattle.entry_tree.proofs.Trees.{root_or_child, tie_is}
use Rattle.roots_api.proofs.ListedRows.{name_below_is, child_cmp}

name_of_child : (p : Names) (n : List ℕ) → name_below (p ++ n ∷ []) p ≡ Some n
name_of_child [] n = refl
name_of_child (x ∷ p) n = ap (λ b. cond b (name_below (p ++ n ∷ []) p) None) (name_itself x) ∙ name_of_child p n

no_some : (n : List ℕ) → ◌≡◌ {A = Option (List ℕ)} None (Some n) → ⊥
no_some n h = cc

module _ (p : Names) (n : List ℕ) where
  not_child : (k : Names) → name_below k p ≡ None → is_eq (path_cmp (p ++ n ∷ []) k) ≡ false
  not_child k h =
      elim (eq_by_cmp path_cmp (p ++ n ∷ []) k) as (λ b. eq_by_cmp path_cmp (p ++ n ∷ []) k ≡ b → b ≡ false) [
        | true ↦ λ e. absurd (no_some n (sym h ∙ ap (λ (q : Names). name_below q p) (sym (tie_is (p ++ n ∷ []) k e)) ∙ name_of_child p n))
        | false ↦ λ _. refl
      ] refl

-- what stands at a child is what its folder's listing has under its name
module _ {X : Type 0} (p : Names) (n : List ℕ) where
  find_child : (es : List (Names × X)) → map.find path_cmp (p ++ n ∷ []) es ≡ map.find (slice_cmp nat_cmp) n (filter_map (child_row p) es)
  find_child [] = refl
  find_child (e ∷ es) =
      elim (name_below e.0 p) as (λ o. name_below e.0 p ≡ o
      → cond (is_eq (path_cmp (p ++ n ∷ []) e.0)) (Some e.1) (map.find path_cmp (p ++ n ∷ []) es) ≡ map.find (slice_cmp nat_cmp) n (cons_option (option_map (λ name. (name, e.1)) o) (filter_map (child_row p) es))) [
        | None ↦ λ none. ap (λ b. cond b (Some e.1) (map.find path_cmp (p ++ n ∷ []) es)) (not_child p n e.0 none) ∙ find_child es
        | Some m ↦ λ is.
            ap (λ (k : Names). cond (is_eq (path_cmp (p ++ n ∷ []) k)) (Some e.1) (map.find path_cmp (p ++ n ∷ []) es)) (name_below_is e.0 p m is)
            ∙ ap (λ r. cond (is_eq r) (Some e.1) (map.find path_cmp (p ++ n ∷ []) es)) (child_cmp p n m)
            ∙ ap (cond (is_eq (slice_cmp nat_cmp n m)) (Some e.1)) (find_child es)
      ] refl

  at_child : (tree : ByPath X) → map.get tree (p ++ n ∷ []) ≡ map.find (slice_cmp nat_cmp) n (children_below tree p)
  at_child tree = map.get-entries tree (p ++ n ∷ []) ∙ find_child (map.entries tree)

nothing_at : (tree : ByPath Entry) (p : Names) (n : List ℕ) → IsClosed is_dir tree → holds_folder is_dir (map.get tree p) ≡ false → map.get tree (p ++ n ∷ []) ≡ None
nothing_at tree p n closed no_folder =
    elim (map.get tree (p ++ n ∷ [])) as (λ o. map.get tree (p ++ n ∷ []) ≡ o → o ≡ None) [
      | None ↦ λ _. refl
      | Some x ↦ λ e. absurd (let h : false ≡ true = sym no_folder ∙ closed p n (ap (λ (o : Option Entry). is_some o) e) in cc)
    ] refl

module _ (one other : ByPath Entry) (shut : IsClosed is_dir one) (shut_too : IsClosed is_dir other) (root : map.get one [] ≡ map.get other [])
    (same : (path : Names) → holds_folder is_dir (map.get one path) ≡ true → children_below one path ≡ children_below other path) where
  same_at : (k : ℕ) (q : Names) → length q < k → map.get one q ≡ map.get other q
  same_at zero q short = absurd (omega arith)
  same_at (suc k) q short =
      elim (root_or_child q) [
        | inl e ↦ ap (map.get one) e ∙ root ∙ ap (map.get other) (sym e)
        | inr c ↦
            let parent : Names = c.0 in
            let child : Names = c.0 ++ c.1 ∷ [] in
            let shorter : length parent < k = let e : length q ≡ length child = ap length c.2 in omega (arith, length-append parent (c.1 ∷ [])) in
            let above = same_at k parent shorter in
            let here : map.get one child ≡ map.get other child =
            elim (holds_folder is_dir (map.get one parent)) as (λ b. holds_folder is_dir (map.get one parent) ≡ b → map.get one child ≡ map.get other child) [
              | true ↦ λ folder. at_child parent c.1 one ∙ ap (map.find (slice_cmp nat_cmp) c.1) (same parent folder) ∙ sym (at_child parent c.1 other)
              | false ↦ λ none. nothing_at one parent c.1 shut none ∙ sym (nothing_at other parent c.1 shut_too (ap (λ (o : Option Entry). holds_folder is_dir o) (sym above) ∙ none))
            ] refl in
            ap (map.get one) c.2 ∙ here ∙ ap (map.get other) (sym c.2)
      ]

  pub listings_tell : one ≡ other
  listings_tell = map.same_map path_cmp_total path_same one other (λ q. same_at (length q + 1) q (omega arith))
