-- Maps as the lists of their entries, so that what is said of small ones can be computed.
use Rattle.std.proofs.Common.{◌≡◌, Bool, T, refl, sym, ap, ◌∙◌, List, [], ◌∷◌, length, arith, Ordering, Equal, cond, None}
use Rattle.std.specs.FinMap as map
use Rattle.std.specs.FinMap.{FinMap, IsAntisymmetric}
use Rattle.std.specs.FinMap.Entries.{find, put, where_key, is_sorted-where_key, find-where_key}
use Rattle.std.specs.Cmp.{IsTotalOrder}
use Rattle.sync_path.specs.Path.{path_cmp}
use Rattle.sync_path.specs.PathOrder.{path_cmp_total}
use Rattle.sync_path.proofs.Intervals.{path_cmp_exact}
use Rattle.entry_tree.specs.Tree.{Names, ByPath}
use Rattle.entry_tree.specs.declared.atom.Atom.{Atom}
use Rattle.entry_tree.specs.declared.entry.Entry.{Entry}
use Rattle.entry_tree.specs.declared.entry.Stamp.{Stamp}

path_same : IsAntisymmetric path_cmp
path_same p q e = path_cmp_exact p q e

no_length : {A : Type 0} (es : List A) → length es ≡ 0 → es ≡ []
no_length [] e = refl
no_length (x ∷ es) e = absurd (omega arith)

pub of_empty : {K : Type 0} (R : K → K → Ordering) (X : Type 0) → map.entries (map.empty {X = X} {R = R}) ≡ []
of_empty R X = no_length _ (sym (map.len-entries (map.empty {X = X} {R = R})) ∙ map.len-empty R X)

module _ {K X : Type 0} {R : K → K → Ordering} where
  -- what a look-up finds
  pub gets : (m : FinMap R X) (q : K) → map.get m q ≡ find R q (map.entries m)
  gets m q = map.get-entries m q

  module _ (o : IsTotalOrder R) (same : IsAntisymmetric R) where
    pub of_insert : (m : FinMap R X) (k : K) (v : X) → map.entries (map.insert m k v) ≡ put R k v (map.entries m)
    of_insert m k v = map.entries-insert o m k v

    pub of_retained : (m : FinMap R X) (p : K → Bool) → map.entries (map.retain_keys m p) ≡ where_key R p (map.entries m)
    of_retained m p =
        let alike : (q x : K) → R q x ≡ Equal → p x ≡ p q = λ q x t. ap p (sym (same q x t)) in
        let kept : T (map.is_sorted R (where_key R p (map.entries m))) = is_sorted-where_key R p (map.entries m) (map.entries_sorted m) in
        ap map.entries (map.same_map o same (map.retain_keys m p) (map.from_sorted (where_key R p (map.entries m)))
        (λ q. map.get-retain_keys m p q (alike q) ∙ ap (λ f. cond (p q) f None) (map.get-entries m q) ∙ sym (find-where_key R p q (alike q) (map.entries m)) ∙ sym (map.get-from_sorted R (where_key R p (map.entries m)) q kept)))
        ∙ map.entries-from_sorted R (where_key R p (map.entries m)) kept

-- the same of maps from paths to atoms, to entries, to stamps, and of sets of paths
pub atom_gets : (m : ByPath Atom) (q : Names) → map.get m q ≡ find path_cmp q (map.entries m)
atom_gets = gets

pub entry_gets : (m : ByPath Entry) (q : Names) → map.get m q ≡ find path_cmp q (map.entries m)
entry_gets = gets

pub stamp_gets : (m : ByPath Stamp) (q : Names) → map.get m q ≡ find path_cmp q (map.entries m)
stamp_gets = gets

pub atom_insert : (m : ByPath Atom) (k : Names) (v : Atom) → map.entries (map.insert m k v) ≡ put path_cmp k v (map.entries m)
atom_insert = of_insert path_cmp_total path_same

pub entry_insert : (m : ByPath Entry) (k : Names) (v : Entry) → map.entries (map.insert m k v) ≡ put path_cmp k v (map.entries m)
entry_insert = of_insert path_cmp_total path_same

pub stamp_insert : (m : ByPath Stamp) (k : Names) (v : Stamp) → map.entries (map.insert m k v) ≡ put path_cmp k v (map.entries m)
stamp_insert = of_insert path_cmp_total path_same

pub path_insert : (m : ByPath (Unit {0})) (k : Names) (v : Unit {0}) → map.entries (map.insert m k v) ≡ put path_cmp k v (map.entries m)
path_insert = of_insert path_cmp_total path_same

pub atom_retained : (m : ByPath Atom) (p : Names → Bool) → map.entries (map.retain_keys m p) ≡ where_key path_cmp p (map.entries m)
atom_retained = of_retained path_cmp_total path_same

pub entry_retained : (m : ByPath Entry) (p : Names → Bool) → map.entries (map.retain_keys m p) ≡ where_key path_cmp p (map.entries m)
entry_retained = of_retained path_cmp_total path_same

pub atom_empty : map.entries (map.empty {X = Atom} {R = path_cmp}) ≡ []
atom_empty = of_empty path_cmp Atom

pub entry_empty : map.entries (map.empty {X = Entry} {R = path_cmp}) ≡ []
entry_empty = of_empty path_cmp Entry

pub stamp_empty : map.entries (map.empty {X = Stamp} {R = path_cmp}) ≡ []
stamp_empty = of_empty path_cmp Stamp

pub path_empty : map.entries (map.empty {X = Unit {0}} {R = path_cmp}) ≡ []
path_empty = of_empty path_cmp (Unit {0})

-- what is said of these maps is computed from their entries
pub ruleset maps_of_paths = (atom_gets, entry_gets, stamp_gets, atom_insert, entry_insert, stamp_insert, path_insert, atom_retained, entry_retained, atom_empty, entry_empty, stamp_empty, path_empty)
