-- In a walk in path order, the folder above a path stands before it.
use Rattle.std.proofs.Common.{◌≡◌, inl, inr, ℕ, Bool, true, false, cond, ◌||◌, List, [], ◌∷◌, ◌++◌, refl, sym, ap, subst, ◌∙◌, Option, Some, None, Ordering}
use Rattle.std.proofs.Common.{map as list_map}
use Rattle.std.specs.Prelude.{T, ◌&&◌, is_some}
use Rattle.std.specs.FinMap as map
use Rattle.std.specs.FinMap.Entries.{below_all}
use Rattle.std.specs.Iterator.{Yields}
use Rattle.std.specs.List.{list_any}
use Rattle.std.specs.Map.{keys_of}
use Rattle.std.specs.Map.Iter.{TakesFirst}
use Rattle.std.specs.Option.{option_map}
use Rattle.std.specs.Ordering.{is_eq, is_lt, eq_by_cmp}
use Rattle.std.specs.declared.cmp.Ordering.TheVariants.{Less, Equal, Greater}
use Rattle.std.proofs.lemmas.Map.Iter.{rest_more, rest_so_far}
use Rattle.sync_path.specs.Path.{path_cmp}
use Rattle.sync_path.specs.PathOrder.{path_cmp_total}
use Rattle.finite_maps.proofs.MapLoops.{is_among}
use Rattle.entry_tree.specs.Atom as atom
use Rattle.entry_tree.specs.Entry.{is_dir}
use Rattle.entry_tree.specs.Tree.{Names, ByPath, IsClosed, holds_folder, at_parent, refusal}
use Rattle.entry_tree.specs.declared.atom.Atom.{Atom}
use Rattle.entry_tree.specs.declared.entry.Entry.{Entry}
use Rattle.entry_tree.specs.declared.tree_error.TreeError.{TreeError}
use Rattle.entry_tree.specs.declared.tree_error.TreeError.TheVariants.{NotDir}
use Rattle.entry_tree.proofs.Paths.{below_is, child_below, both_true}
use Rattle.entry_tree.proofs.Trees.{parent-child, root_or_child}
use Rattle.roots_api.specs.States.{RootState}
use Rattle.roots_api.specs.Views.{atom_of}
use Rattle.root_laws.proofs.Viewing.{same_kind}

first : (a b : Bool) → T (a && b) → T a
first true b p = tt
first false b p = p

second : (a b : Bool) → T (a && b) → T b
second true b p = p
second false b p = absurd p

less : (r : Ordering) → T (is_lt r) → r ≡ Less
less Less p = refl
less Equal p = absurd p
less Greater p = absurd p

no_or : (a b c : Bool) → a ≡ false → (a || b) ≡ c → b ≡ c
no_or true b c h g = absurd (cc)
no_or false b c h g = g

module _ {X : Type 0} (p : Names) where
  none_above : (k : Names) → path_cmp p k ≡ Less → (es : List (Names × X)) → T (below_all path_cmp k es) → list_any (eq_by_cmp path_cmp p) (keys_of es) ≡ false
  none_above k h [] b = refl
  none_above k h (e ∷ es) b =
      let above = path_cmp_total.trans p k e.0 h (less (path_cmp k e.0) (first _ _ b)) in
      ap (λ r. is_eq r || list_any (eq_by_cmp path_cmp p) (keys_of es)) above ∙ none_above k h es (second (is_lt (path_cmp k e.0)) _ b)

  -- of entries in order, one whose path comes before that of another stands before it
  stands_before : (es fs : List (Names × X)) (e : Names × X) → path_cmp p e.0 ≡ Less → T (map.is_sorted path_cmp (es ++ e ∷ fs)) → list_any (eq_by_cmp path_cmp p) (keys_of (es ++ e ∷ fs)) ≡ true
      → is_among path_cmp es p ≡ true
  stands_before [] fs e h sorted there =
      absurd (let n : false ≡ true = sym (none_above e.0 h fs (first _ _ sorted)) ∙ no_or (eq_by_cmp path_cmp p e.0) _ true (ap is_eq h) there in cc)
  stands_before (g ∷ es) fs e h sorted there =
      elim (eq_by_cmp path_cmp p g.0) as (λ b. eq_by_cmp path_cmp p g.0 ≡ b → (b || is_among path_cmp es p) ≡ true) [
        | true ↦ λ _. refl
        | false ↦ λ apart. stands_before es fs e h (second (below_all path_cmp g.0 (es ++ e ∷ fs)) _ sorted) (no_or (eq_by_cmp path_cmp p g.0) _ true apart there)
      ] refl

parent_less : (p : Names) (n : List ℕ) → path_cmp p (p ++ n ∷ []) ≡ Less
parent_less p n =
    let both = both_true (is_lt (path_cmp p (p ++ n ∷ []))) _ (sym (below_is (p ++ n ∷ []) p) ∙ child_below p n) in
    less (path_cmp p (p ++ n ∷ [])) (subst T (sym both.0) tt)

folder_shown : (ledger : List (List ℕ)) (o : Option Entry) → holds_folder is_dir o ≡ true → refusal atom.is_dir (Some (option_map (atom_of ledger) o)) ≡ None
folder_shown ledger None h = absurd (cc)
folder_shown ledger (Some e) h = ap (λ (b : Bool). cond {A = Option TreeError} b None (Some NotDir)) (same_kind ledger e ∙ h)

stands : (o : Option Entry) → holds_folder is_dir o ≡ true → is_some o ≡ true
stands None h = absurd (cc)
stands (Some e) h = refl

-- a walk over the entries of a closed tree, which has shown those before: the next may be set
module _ {A : Type 0} (shows : A → Names × Entry) (s : RootState) (closed : IsClosed is_dir s.tree) (xs : List A) (b t u : List (Names × Entry)) (r : Option A)
    (start : b ≡ map.entries s.tree) (y : Yields (TakesFirst shows) b xs t) (x : A) (more : r ≡ Some x) (takes : TakesFirst shows t r u)
    (at : map.get s.tree (shows x).0 ≡ Some (shows x).1)
    (view : ByPath Atom) (shown : (q : Names) → map.get view q ≡ cond (is_among path_cmp (list_map shows xs) q) (option_map (atom_of s.ledger) (map.get s.tree q)) None) where
  all : map.entries s.tree ≡ list_map shows xs ++ shows x ∷ u
  all = sym start ∙ rest_so_far shows xs b t y ∙ ap (λ l. list_map shows xs ++ l) (rest_more shows t u r x more takes)

  below_parent : (p : Names) (n : List ℕ) → (shows x).0 ≡ p ++ n ∷ [] → refusal atom.is_dir (Some (map.get view p)) ≡ None
  below_parent p n is =
      let folder : holds_folder is_dir (map.get s.tree p) ≡ true =
      closed p n (ap (λ (q : Names). is_some (map.get s.tree q)) (sym is) ∙ ap (λ (o : Option Entry). is_some o) at) in
      let before : is_among path_cmp (list_map shows xs) p ≡ true =
      stands_before p (list_map shows xs) u (shows x) (ap (path_cmp p) is ∙ parent_less p n) (subst (λ (es : List (Names × Entry)). T (map.is_sorted path_cmp es)) all (map.entries_sorted s.tree))
      (ap (λ (es : List (Names × Entry)). list_any (eq_by_cmp path_cmp p) (keys_of es)) (sym all) ∙ sym (map.contains_key-keys s.tree p) ∙ stands (map.get s.tree p) folder) in
      ap (λ (o : Option Atom). refusal atom.is_dir (Some o)) (shown p ∙ ap (λ (c : Bool). cond c (option_map (atom_of s.ledger) (map.get s.tree p)) None) before)
      ∙ folder_shown s.ledger (map.get s.tree p) folder

  pub may_show : refusal atom.is_dir (at_parent view (shows x).0) ≡ None
  may_show = elim (root_or_child (shows x).0) [
    | inl is ↦ ap (λ (q : Names). refusal atom.is_dir (at_parent view q)) is
    | inr c ↦
        ap (λ (q : Names). refusal atom.is_dir (at_parent view q)) c.2
        ∙ ap (λ (o : Option Names). refusal atom.is_dir (option_map (map.get view) o)) (parent-child c.0 c.1)
        ∙ below_parent c.0 c.1 c.2
  ]
