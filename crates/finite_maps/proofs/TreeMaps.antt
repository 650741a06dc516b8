-- Finite maps made from the entries of a tree: what is asked of the one is answered by the other.
use Rattle.std.proofs.Common.{◌≡◌, Bool, true, false, cond, List, [], ◌∷◌, length, refl, sym, ap, subst, ◌∙◌, Some, None, Ordering}
use Rattle.std.specs.Prelude.{T, ◌&&◌}
use Rattle.std.specs.FinMap as map
use Rattle.std.specs.FinMap.{IsAntisymmetric}
use Rattle.std.specs.FinMap.Entries.{below_all}
use Rattle.std.specs.BTreeMap as tree
use Rattle.std.specs.BTreeMap.{BTreeMap, is_at}
use Rattle.std.specs.Cmp.{IsTotalOrder, eq_by_cmp_equiv}
use Rattle.std.specs.List.{AllByRecursion}
use Rattle.std.specs.List.Sorted.{IsStrictlySortedBy}
use Rattle.std.specs.Map.{keys_of, lookup}
use Rattle.std.specs.Option.{IsSome}
use Rattle.std.specs.Ordering.{is_eq, is_lt, eq_by_cmp}
use Rattle.std.specs.declared.cmp.Ordering.TheVariants.{Less}
use Rattle.std.proofs.lemmas.Map.Keys.{sorted_head, sorted_tail}

both : (a b : Bool) → T a → T b → T (a && b)
both true b p q = q
both false b p q = p

module _ {K X : Type 0} (R : K → K → Ordering) where
  -- a search from the front, in the words of a tree
  pub find-lookup : (q : K) (es : List (K × X)) → map.find R q es ≡ lookup (is_at (R q)) es
  find-lookup q [] = refl
  find-lookup q (e ∷ es) = ap (cond (is_eq (R q e.0)) (Some e.1)) (find-lookup q es)

  below_all-from_less : (k : K) (es : List (K × X)) → AllByRecursion (λ y. R k y ≡ Less) (keys_of es) → T (below_all R k es)
  below_all-from_less k [] h = tt
  below_all-from_less k (e ∷ es) h =
      both (is_lt (R k e.0)) _ (subst (λ r. T (is_lt r)) (sym h.0) tt) (below_all-from_less k es h.1)

  -- keys that rise, in the words of a finite map
  pub is_sorted-from_keys : (es : List (K × X)) → IsStrictlySortedBy R (keys_of es) → T (map.is_sorted R es)
  is_sorted-from_keys [] h = tt
  is_sorted-from_keys (e ∷ es) h =
      both (below_all R e.0 es) _ (below_all-from_less e.0 es (sorted_head R e.0 (keys_of es) h)) (is_sorted-from_keys es (sorted_tail R e.0 (keys_of es) h))

module _ {K X : Type 0} {R : K → K → Ordering} (o : IsTotalOrder R) where
  -- a look-up in the map is one in the tree
  pub get-from_tree : (m : BTreeMap K X) (q : K) → map.get (map.from_entries {R = R} m.entries) q ≡ tree.get R m q
  get-from_tree m q = map.get-from_entries o m.entries q ∙ find-lookup R q m.entries

module _ {K X : Type 0} {R : K → K → Ordering} (o : IsTotalOrder R) (same : IsAntisymmetric R) where
  -- the map's entries are the tree's
  pub entries-from_tree : (m : BTreeMap K X) → tree.IsOrdered R m → map.entries (map.from_entries {R = R} m.entries) ≡ m.entries
  entries-from_tree m h =
      let sorted = is_sorted-from_keys R m.entries h in
      ap map.entries (map.same_map o same (map.from_entries m.entries) (map.from_sorted m.entries)
      (λ q. map.get-from_entries o m.entries q ∙ sym (map.get-from_sorted R m.entries q sorted)))
      ∙ map.entries-from_sorted R m.entries sorted

  pub len-from_tree : (m : BTreeMap K X) → tree.IsOrdered R m → map.len (map.from_entries {R = R} m.entries) ≡ tree.btree_map_len m
  len-from_tree m h = map.len-entries (map.from_entries m.entries) ∙ ap length (entries-from_tree m h)

  -- the map of a tree in which a value was put
  pub insert-from_tree : (m n : BTreeMap K X) (k : K) (v : X) → tree.Updates R m n k (Some v) → map.from_entries {R = R} n.entries ≡ map.insert (map.from_entries {R = R} m.entries) k v
  insert-from_tree m n k v u =
      map.same_map o same (map.from_entries n.entries) (map.insert (map.from_entries m.entries) k v)
      (λ q. get-from_tree o n q
      ∙ u.0 q
      ∙ ap (λ b. cond b (Some v) (tree.get R m q)) ((eq_by_cmp_equiv o).symm k q)
      ∙ sym (map.get-insert o (map.from_entries m.entries) k v q ∙ ap (cond (eq_by_cmp R q k) (Some v)) (get-from_tree o m q)))

  -- the map of a tree from which a key was taken
  pub remove-from_tree : (m n : BTreeMap K X) (k : K) → tree.Updates R m n k None → map.from_entries {R = R} n.entries ≡ map.remove (map.from_entries {R = R} m.entries) k
  remove-from_tree m n k u =
      map.same_map o same (map.from_entries n.entries) (map.remove (map.from_entries m.entries) k)
      (λ q. get-from_tree o n q
      ∙ u.0 q
      ∙ ap (λ b. cond b None (tree.get R m q)) ((eq_by_cmp_equiv o).symm k q)
      ∙ sym (map.get-remove o (map.from_entries m.entries) k q ∙ ap (cond (eq_by_cmp R q k) None) (get-from_tree o m q)))

  -- the map of a tree in which a value was written through what `get_mut` lent
  pub written-from_tree : (m n : BTreeMap K X) (k : K) (held v : X) → Some held ≡ tree.get R m k → tree.WritesThrough R (R k) m v n → map.from_entries {R = R} n.entries ≡ map.insert (map.from_entries {R = R} m.entries) k v
  written-from_tree m n k held v at writes = insert-from_tree m n k v (writes.3 (subst IsSome at refl))
