-- Finite maps made from a list of entries whose keys rise, and a binary search in such a list.
use Rattle.std.proofs.Common.{◌≡◌, ℕ, ◌+◌, ◌<◌, Bool, true, false, ◌&&◌, T, List, [], ◌∷◌, length, get_or, refl, sym, ap, subst, ◌∙◌, Some, None, Result, Ok, Err, MatchResult, slice_get, Ordering, arith}
use Rattle.std.specs.FinMap as map
use Rattle.std.specs.FinMap.{IsAntisymmetric}
use Rattle.std.specs.FinMap.Entries.{below_all}
use Rattle.std.specs.List.{AllByRecursion}
use Rattle.std.specs.BTreeMap.{is_at}
use Rattle.std.specs.Cmp.{IsTotalOrder, eq_by_cmp_equiv}
use Rattle.std.specs.List.Sorted.{IsSortedBy, IsStrictlySortedBy, IsBinarySearchResult}
use Rattle.std.specs.Map.{keys_of, lookup}
use Rattle.std.specs.Ordering.{is_lt, ordering_reverse}
use Rattle.std.specs.declared.cmp.Ordering.TheVariants.{Less, Equal, Greater}
use Rattle.std.proofs.lemmas.List.{get_or-map, length-map}
use Rattle.std.proofs.lemmas.List.Sorted.{searchable_from_sorted}
use Rattle.std.proofs.lemmas.Option.{get_or_from_slice_get, slice_get_within}
use Rattle.std.proofs.lemmas.Map.Entries.{lookup_from_place, lookup_at_gap}
use Rattle.std.proofs.lemmas.Map.Keys.{IsDistinct-from_sorted, Less-from_sorted}
use Rattle.finite_maps.proofs.TreeMaps.{find-lookup, is_sorted-from_keys}

first : (a b : Bool) → T (a && b) → T a
first true b p = tt
first false b p = p

second : (a b : Bool) → T (a && b) → T b
second true b p = p
second false b p = absurd p

less : (r : Ordering) → T (is_lt r) → r ≡ Less
less Less p = refl
less Equal p = absurd p
less Greater p = absurd p

module _ {K X : Type 0} (R : K → K → Ordering) where
  less-from_below_all : (k : K) (es : List (K × X)) → T (below_all R k es) → AllByRecursion (λ y. R k y ≡ Less) (keys_of es)
  less-from_below_all k [] h = tt
  less-from_below_all k (e ∷ es) h = (less (R k e.0) (first _ _ h), less-from_below_all k es (second _ _ h))

  -- keys that rise, in the words of a list
  pub sorted-from_is_sorted : (es : List (K × X)) → T (map.is_sorted R es) → IsStrictlySortedBy R (keys_of es)
  unfolding IsStrictlySortedBy
  sorted-from_is_sorted [] h = tt
  sorted-from_is_sorted (e ∷ es) h = (less-from_below_all e.0 es (first _ _ h), sorted-from_is_sorted es (second _ _ h))

module _ {K X : Type 0} {R : K → K → Ordering} (o : IsTotalOrder R) (same : IsAntisymmetric R) (es : List (K × X)) (sorted : IsStrictlySortedBy R (keys_of es)) where
  -- the map's entries are the list
  pub entries-from_list : map.entries (map.from_entries {R = R} es) ≡ es
  entries-from_list =
      let rises = is_sorted-from_keys R es sorted in
      ap map.entries (map.same_map o same (map.from_entries es) (map.from_sorted es)
      (λ q. map.get-from_entries o es q ∙ sym (map.get-from_sorted R es q rises)))
      ∙ map.entries-from_sorted R es rises

  pub len-from_list : map.len (map.from_entries {R = R} es) ≡ length es
  len-from_list = map.len-entries (map.from_entries es) ∙ ap length entries-from_list

  get-lookup : (q : K) → map.get (map.from_entries {R = R} es) q ≡ lookup (is_at (R q)) es
  get-lookup q = map.get-from_entries o es q ∙ find-lookup R q es

  rises : IsSortedBy (λ a b. is_lt (R a.0 b.0)) es
  rises k d low high =
      let short : k + 1 < length es = high in
      let here : get_or (keys_of es) k d.0 ≡ (get_or es k d).0 = get_or-map (λ e. e.0) es k d d.0 (omega arith) in
      let next : get_or (keys_of es) (k + 1) d.0 ≡ (get_or es (k + 1) d).0 = get_or-map (λ e. e.0) es (k + 1) d d.0 short in
      let less : R (get_or es k d).0 (get_or es (k + 1) d).0 ≡ Less =
      (λ i. R (sym here i) (sym next i)) ∙ Less-from_sorted R (keys_of es) k (k + 1) d.0 sorted (omega arith) (subst (λ n. k + 1 < n) (sym (length-map es (λ e. e.0))) short) in
      ap is_lt (o.antisymm (get_or es (k + 1) d).0 (get_or es k d).0 ∙ ap ordering_reverse less)

  -- what a binary search for a key comes to: its place, or that the map doesn't have it
  pub searched : (q : K) (r : Result ℕ ℕ) → IsBinarySearchResult (λ e. R e.0 q) es r
      → MatchResult r (λ i. (e : K × X) → slice_get es i ≡ Some e → map.get (map.from_entries {R = R} es) q ≡ Some e.1) (λ i. map.get (map.from_entries {R = R} es) q ≡ None)
  searched q (Ok i) here = λ e at.
      let tie : R e.0 q ≡ Equal = ap (λ (x : K × X). R x.0 q) (sym (get_or_from_slice_get es i e e at)) ∙ here e in
      let found : lookup (is_at (R e.0)) es ≡ Some e.1 = lookup_from_place (eq_by_cmp_equiv o) es i e.0 e.1 (IsDistinct-from_sorted R (keys_of es) sorted) at in
      get-lookup q ∙ ap (λ k. lookup (is_at (R k)) es) (sym (same e.0 q tie)) ∙ found
  searched q (Err i) apart =
      let parts = apart (searchable_from_sorted o (λ e. e.0) es q rises) in
      get-lookup q ∙ lookup_at_gap o q es i sorted
      (λ j e before at. o.antisymm q e.0 ∙ ap ordering_reverse (ap (λ (x : K × X). R x.0 q) (sym (get_or_from_slice_get es j e e at)) ∙ parts.0 j e (omega arith) before))
      (λ e at. o.antisymm q e.0 ∙ ap ordering_reverse (ap (λ (x : K × X). R x.0 q) (sym (get_or_from_slice_get es i e e at)) ∙ parts.1 i e (omega arith) (slice_get_within es i e at)))
