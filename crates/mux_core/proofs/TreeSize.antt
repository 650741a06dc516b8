-- The finite map of a tree's entries is as long as the tree.
use Rattle.std.proofs.Common.{◌≡◌, ℕ, Bool, true, false, List, [], ◌∷◌, length, sym, ap, subst, ◌∙◌}
use Rattle.std.specs.Prelude.{T, ◌&&◌}
use Rattle.std.specs.FinMap as map
use Rattle.std.specs.FinMap.Entries.{below_all}
use Rattle.std.specs.BTreeMap as tree
use Rattle.std.specs.BTreeMap.{BTreeMap}
use Rattle.std.specs.Cmp.{nat_cmp_total}
use Rattle.std.specs.List.{AllByRecursion}
use Rattle.std.specs.List.Sorted.{IsStrictlySortedBy}
use Rattle.std.specs.Map.{keys_of}
use Rattle.std.specs.Ordering.{nat_cmp, is_lt}
use Rattle.std.specs.declared.cmp.Ordering.TheVariants.{Less}
use Rattle.std.proofs.lemmas.Map.Keys.{sorted_head, sorted_tail}
use Rattle.mux_core.specs.declared.stream.Stream.{Stream}

both : (a b : Bool) → T a → T b → T (a && b)
both true b p q = q
both false b p q = p

below_all-from_less : (k : ℕ) (es : List (ℕ × Stream)) → AllByRecursion (λ y. nat_cmp k y ≡ Less) (keys_of es) → T (below_all nat_cmp k es)
below_all-from_less k [] h = tt
below_all-from_less k (e ∷ es) h =
    both (is_lt (nat_cmp k e.0)) _ (subst (λ r. T (is_lt r)) (sym h.0) tt) (below_all-from_less k es h.1)

is_sorted-from_keys : (es : List (ℕ × Stream)) → IsStrictlySortedBy nat_cmp (keys_of es) → T (map.is_sorted nat_cmp es)
is_sorted-from_keys [] h = tt
is_sorted-from_keys (e ∷ es) h =
    both (below_all nat_cmp e.0 es) _ (below_all-from_less e.0 es (sorted_head nat_cmp e.0 (keys_of es) h)) (is_sorted-from_keys es (sorted_tail nat_cmp e.0 (keys_of es) h))

entries-from_tree : (m : BTreeMap ℕ Stream) → tree.IsOrdered nat_cmp m → map.entries (map.from_entries {R = nat_cmp} m.entries) ≡ m.entries
entries-from_tree m h =
    let sorted = is_sorted-from_keys m.entries h in
    ap map.entries (map.same_map nat_cmp_total map.nat_cmp-IsAntisymmetric (map.from_entries m.entries) (map.from_sorted m.entries)
    (λ q. map.get-from_entries nat_cmp_total m.entries q ∙ sym (map.get-from_sorted nat_cmp m.entries q sorted)))
    ∙ map.entries-from_sorted nat_cmp m.entries sorted

pub len-from_tree : (m : BTreeMap ℕ Stream) → tree.IsOrdered nat_cmp m → map.len (map.from_entries {R = nat_cmp} m.entries) ≡ tree.btree_map_len m
len-from_tree m h = map.len-entries (map.from_entries m.entries) ∙ ap length (entries-from_tree m h)
