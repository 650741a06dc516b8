-- The entries of a tree, and lines that are made of them.
use Rattle.std.proofs.Common.{◌≡◌, Bool, true, false, cond, ◌||◌, List, [], ◌∷◌, refl, sym, ap, ◌∙◌, inl, inr, Option, Some, None}
use Rattle.std.specs.Prelude.{◌⊎◌}
use Rattle.std.specs.FinMap as map
use Rattle.std.specs.FinMap.{find}
use Rattle.std.specs.List.{filter, filter_map, cons_option, list_any, AllByRecursion}
use Rattle.std.specs.List.Sorted.{IsStrictlySortedBy}
use Rattle.std.specs.Map.{keys_of}
use Rattle.std.specs.Ordering.{is_eq, eq_by_cmp, ordering_reverse}
use Rattle.std.specs.declared.cmp.Ordering.TheVariants.{Less}
use Rattle.std.proofs.lemmas.Bool.{or_cases, or_left, or_right}
use Rattle.std.proofs.lemmas.Cmp.{tied_itself}
use Rattle.std.proofs.lemmas.Map.Keys.{sorted_head, sorted_tail}
use Rattle.finite_maps.proofs.Constructors.{none_is_not_some}
use Rattle.finite_maps.proofs.SortedLists.{sorted-from_is_sorted}
use Rattle.sync_path.specs.Path.{path_cmp}
use Rattle.sync_path.specs.PathOrder.{path_cmp_total}
use Rattle.entry_tree.specs.Tree.{Names, ByPath}
use Rattle.entry_tree.specs.declared.atom.Atom.{Atom}
use Rattle.entry_tree.proofs.Trees.{tie_is}
use Rattle.mode_rules.specs.declared.ancestor_line.AncestorLine.{AncestorLine}
use Rattle.mode_rules.proofs.Folding.{touches_line}
use Rattle.ancestor_store.specs.Settling.{touched}

-- what holds of each answer holds of them all
pub maps_all : {X Y : Type 0} (P : X → Type 0) (Q : Y → Type 0) (f : X → Option Y) → ((x : X) → P x → (y : Y) → f x ≡ Some y → Q y) → (xs : List X) → AllByRecursion P xs
    → AllByRecursion Q (filter_map f xs)
maps_all P Q f each [] all = tt
maps_all P Q f each (x ∷ xs) all = by (f x) refl (maps_all P Q f each xs all.1)
  where
    by : (o : Option _) → f x ≡ o → AllByRecursion Q (filter_map f xs) → AllByRecursion Q (cons_option o (filter_map f xs))
    by None e rest = rest
    by (Some y) e rest = (each x all.0 y e, rest)

later_found : (e : Names × Atom) (es fs : List (Names × Atom)) → AllByRecursion (λ k. path_cmp e.0 k ≡ Less) (keys_of fs) → AllByRecursion (λ x. find path_cmp x.0 es ≡ Some x.1) fs
    → AllByRecursion (λ x. find path_cmp x.0 (e ∷ es) ≡ Some x.1) fs
later_found e es [] less all = tt
later_found e es (x ∷ fs) less all =
    let apart : eq_by_cmp path_cmp x.0 e.0 ≡ false = ap is_eq (path_cmp_total.antisymm x.0 e.0 ∙ ap ordering_reverse less.0) in
    (ap (λ b. cond b (Some e.1) (find path_cmp x.0 es)) apart ∙ all.0, later_found e es fs less.1 all.1)

each_found : (es : List (Names × Atom)) → IsStrictlySortedBy path_cmp (keys_of es) → AllByRecursion (λ x. find path_cmp x.0 es ≡ Some x.1) es
each_found [] sorted = tt
each_found (e ∷ es) sorted = (
  ap (λ b. cond b (Some e.1) (find path_cmp e.0 es)) (ap is_eq (tied_itself path_cmp_total e.0)),
  later_found e es es (sorted_head path_cmp e.0 (keys_of es) sorted) (each_found es (sorted_tail path_cmp e.0 (keys_of es) sorted)),
)

pub weaker : {X : Type 0} (P Q : X → Type 0) → ((x : X) → P x → Q x) → (xs : List X) → AllByRecursion P xs → AllByRecursion Q xs
weaker P Q each [] all = tt
weaker P Q each (x ∷ xs) all = (each x all.0, weaker P Q each xs all.1)

-- an entry stands in a tree
abbrev pub StandsIn : ByPath Atom → Names × Atom → Type 0
StandsIn tree e = map.get tree e.0 ≡ Some e.1

-- each entry of a tree stands in it
pub entries_stand : (tree : ByPath Atom) → AllByRecursion (StandsIn tree) (map.entries tree)
entries_stand tree =
    weaker _ _ (λ x found. map.get-entries tree x.0 ∙ found) (map.entries tree)
    (each_found (map.entries tree) (sorted-from_is_sorted path_cmp (map.entries tree) (map.entries_sorted tree)))

-- and what stands in it is one of them
among_found : (q : Names) (es : List (Names × Atom)) (x : Atom) → find path_cmp q es ≡ Some x → list_any (eq_by_cmp path_cmp q) (keys_of es) ≡ true
among_found q [] x e = absurd (none_is_not_some x e)
among_found q (y ∷ es) x e = by (eq_by_cmp path_cmp q y.0) refl (λ f. among_found q es x f)
  where
    by : (b : Bool) → eq_by_cmp path_cmp q y.0 ≡ b → (find path_cmp q es ≡ Some x → list_any (eq_by_cmp path_cmp q) (keys_of es) ≡ true)
        → (eq_by_cmp path_cmp q y.0 || list_any (eq_by_cmp path_cmp q) (keys_of es)) ≡ true
    by true t more = or_left _ _ t
    by false t more = or_right (eq_by_cmp path_cmp q y.0) _ (more (sym (ap (λ b. cond b (Some y.1) (find path_cmp q es)) t) ∙ e))

pub among_entries : (tree : ByPath Atom) (q : Names) (x : Atom) → map.get tree q ≡ Some x → list_any (eq_by_cmp path_cmp q) (keys_of (map.entries tree)) ≡ true
among_entries tree q x is = among_found q (map.entries tree) x (sym (map.get-entries tree q) ∙ is)

-- what is left of entries by a test of their paths
pub among_filter : (test : Names → Bool) (p : Names) (es : List (Names × Atom)) → test p ≡ true → list_any (eq_by_cmp path_cmp p) (keys_of es) ≡ true
    → list_any (eq_by_cmp path_cmp p) (keys_of (filter (λ e. test e.0) es)) ≡ true
among_filter test p [] h has = has
among_filter test p (e ∷ es) h has = by (test e.0) refl (or_cases (eq_by_cmp path_cmp p e.0) (list_any (eq_by_cmp path_cmp p) (keys_of es)) has) (among_filter test p es h)
  where
    by : (b : Bool) → test e.0 ≡ b → (eq_by_cmp path_cmp p e.0 ≡ true) ⊎ (list_any (eq_by_cmp path_cmp p) (keys_of es) ≡ true)
        → (list_any (eq_by_cmp path_cmp p) (keys_of es) ≡ true → list_any (eq_by_cmp path_cmp p) (keys_of (filter (λ x. test x.0) es)) ≡ true)
        → list_any (eq_by_cmp path_cmp p) (keys_of (cond b (e ∷ filter (λ x. test x.0) es) (filter (λ x. test x.0) es))) ≡ true
    by true t (inl here) rec = or_left _ _ here
    by true t (inr later) rec = or_right (eq_by_cmp path_cmp p e.0) _ (rec later)
    by false t (inl here) rec = let no : true ≡ false = sym h ∙ ap test (tie_is p e.0 here) ∙ t in absurd (cc)
    by false t (inr later) rec = rec later

pub filter_all : {X : Type 0} (P : X → Type 0) (test : X → Bool) (xs : List X) → AllByRecursion P xs → AllByRecursion P (filter test xs)
filter_all P test [] all = tt
filter_all P test (x ∷ xs) all = by (test x) (filter_all P test xs all.1)
  where
    by : (b : Bool) → AllByRecursion P (filter test xs) → AllByRecursion P (cond b (x ∷ filter test xs) (filter test xs))
    by true rest = (all.0, rest)
    by false rest = rest

-- what passes a test is left
pub filter_passes : {X : Type 0} (test : X → Bool) (xs : List X) → AllByRecursion (λ x. test x ≡ true) (filter test xs)
filter_passes test [] = tt
filter_passes test (x ∷ xs) = by (test x) refl (filter_passes test xs)
  where
    by : (b : Bool) → test x ≡ b → AllByRecursion (λ y. test y ≡ true) (filter test xs) → AllByRecursion (λ y. test y ≡ true) (cond b (x ∷ filter test xs) (filter test xs))
    by true e rest = (e, rest)
    by false e rest = rest

-- a line that is made of an entry of this path decides another
abbrev pub MakesAt : (Names × Atom → Option AncestorLine) → Names → Names → Names × Atom → Type 0
MakesAt f q p e = e.0 ≡ p → (l : AncestorLine) × (f e ≡ Some l) × (touches_line q l ≡ true)

pub touched_in : (f : Names × Atom → Option AncestorLine) (q p : Names) (es : List (Names × Atom)) → AllByRecursion (MakesAt f q p) es → list_any (eq_by_cmp path_cmp p) (keys_of es) ≡ true
    → touched q (filter_map f es) ≡ true
touched_in f q p [] all has = let no : false ≡ true = has in absurd (cc)
touched_in f q p (e ∷ es) all has =
    elim (or_cases (eq_by_cmp path_cmp p e.0) (list_any (eq_by_cmp path_cmp p) (keys_of es)) has) [
      | inl tie ↦
          let made = all.0 (sym (tie_is p e.0 tie)) in
          ap (λ (o : Option AncestorLine). touched q (cons_option o (filter_map f es))) made.1 ∙ or_left (touches_line q made.0) (touched q (filter_map f es)) made.2
      | inr more ↦ behind (f e) (touched_in f q p es all.1 more)
    ]
  where
    behind : (o : Option AncestorLine) → touched q (filter_map f es) ≡ true → touched q (cons_option o (filter_map f es)) ≡ true
    behind None t = t
    behind (Some l) t = or_right (touches_line q l) (touched q (filter_map f es)) t
