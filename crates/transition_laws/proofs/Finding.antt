-- What stands in a tree, and what its list of entries says.
use Rattle.std.proofs.Common.{◌≡◌, Bool, true, false, cond, not, ◌||◌, ◌&&◌, List, [], ◌∷◌, ◌++◌, reverse, refl, sym, ap, subst, ◌∙◌, Option, Some, None}
use Rattle.std.proofs.lemmas.Bool.{or_left, or_right}
use Rattle.std.proofs.lemmas.List.{reverse-append}
use Rattle.std.specs.FinMap as map
use Rattle.std.specs.FinMap.{find}
use Rattle.std.specs.List.{list_any, filter, AllByRecursion}
use Rattle.std.specs.List.Sorted.{IsStrictlySortedBy}
use Rattle.std.specs.Map.{keys_of}
use Rattle.std.specs.Option.{is_some}
use Rattle.std.specs.Ordering.{is_eq, eq_by_cmp, ordering_reverse}
use Rattle.std.specs.declared.cmp.Ordering.TheVariants.{Less}
use Rattle.std.proofs.lemmas.Cmp.{tied_itself}
use Rattle.std.proofs.lemmas.Map.Keys.{sorted_head, sorted_tail}
use Rattle.finite_maps.proofs.Constructors.{none_is_not_some, some_same}
use Rattle.finite_maps.proofs.SortedLists.{sorted-from_is_sorted}
use Rattle.sync_path.specs.Path.{path_cmp}
use Rattle.sync_path.specs.PathOrder.{path_cmp_total}
use Rattle.entry_tree.specs.Tree.{Names, ByPath}
use Rattle.entry_tree.proofs.Trees.{tie_is}

pub no_true : (b : Bool) → b ≡ true → b ≡ false → ⊥
no_true true t f = let no : true ≡ false = f in cc
no_true false t f = let no : false ≡ true = t in cc

-- two tests are the same where each implies the other
pub same_test : (a b : Bool) → (a ≡ true → b ≡ true) → (b ≡ true → a ≡ true) → a ≡ b
same_test true true f g = refl
same_test true false f g = sym (f refl)
same_test false true f g = g refl
same_test false false f g = refl

pub is_false : (b : Bool) → (b ≡ true → ⊥) → b ≡ false
is_false true f = absurd (f refl)
is_false false f = refl

pub nothing_there : {X : Type 0} (o : Option X) → ((x : X) → o ≡ Some x → ⊥) → o ≡ None
nothing_there None f = refl
nothing_there (Some x) f = absurd (f x refl)

weaker : {Y : Type 0} (P Q : Y → Type 0) → ((x : Y) → P x → Q x) → (xs : List Y) → AllByRecursion P xs → AllByRecursion Q xs
weaker P Q each [] all = tt
weaker P Q each (x ∷ xs) all = (each x all.0, weaker P Q each xs all.1)

pub itself : (p : Names) → eq_by_cmp path_cmp p p ≡ true
itself p = ap is_eq (tied_itself path_cmp_total p)

module _ {X : Type 0} where
  -- one of these with which a test is true
  pub record Met (test : Names × X → Bool) (lookup : Names → Option X) : Type 0 where
    pub path : Names
    pub value : X
    pub there : lookup path ≡ Some value
    pub is : test (path, value) ≡ true

  found_any : (test : Names × X → Bool) (p : Names) (x : X) (es : List (Names × X)) → find path_cmp p es ≡ Some x → test (p, x) ≡ true → list_any test es ≡ true
  found_any test p x [] e is = absurd (none_is_not_some x e)
  found_any test p x (y ∷ es) e is = by (eq_by_cmp path_cmp p y.0) refl (λ f. found_any test p x es f is)
    where
      by : (b : Bool) → eq_by_cmp path_cmp p y.0 ≡ b → (find path_cmp p es ≡ Some x → list_any test es ≡ true) → (test y || list_any test es) ≡ true
      by true t more =
          let path_is : p ≡ y.0 = tie_is p y.0 t in
          let value_is : x ≡ y.1 = sym (some_same y.1 x (ap (λ b. cond b (Some y.1) (find path_cmp p es)) (sym t) ∙ e)) in
          or_left (test y) (list_any test es) (subst (λ (q : Names). test (q, y.1) ≡ true) path_is (subst (λ (v : X). test (p, v) ≡ true) value_is is))
      by false t more = or_right (test y) (list_any test es) (more (ap (λ b. cond b (Some y.1) (find path_cmp p es)) (sym t) ∙ e))

  -- what stands in a tree is one of its entries
  pub any_from_there : (test : Names × X → Bool) (tree : ByPath X) (p : Names) (x : X) → map.get tree p ≡ Some x → test (p, x) ≡ true → list_any test (map.entries tree) ≡ true
  any_from_there test tree p x there is = found_any test p x (map.entries tree) (sym (map.get-entries tree p) ∙ there) is

  met_of : (test : Names × X → Bool) (lookup : Names → Option X) (es : List (Names × X)) → AllByRecursion (λ e. lookup e.0 ≡ Some e.1) es → list_any test es ≡ true → Met test lookup
  met_of test lookup [] all h = absurd (no_true false h refl)
  met_of test lookup (e ∷ es) all h = by (test e) refl h (met_of test lookup es all.1)
    where
      by : (b : Bool) → test e ≡ b → (b || list_any test es) ≡ true → (list_any test es ≡ true → Met test lookup) → Met test lookup
      by true t g more = record { path = e.0; value = e.1; there = all.0; is = t }
      by false t g more = more g

  later_found : (e : Names × X) (es fs : List (Names × X)) → AllByRecursion (λ k. path_cmp e.0 k ≡ Less) (keys_of fs) → AllByRecursion (λ x. find path_cmp x.0 es ≡ Some x.1) fs
      → AllByRecursion (λ x. find path_cmp x.0 (e ∷ es) ≡ Some x.1) fs
  later_found e es [] less all = tt
  later_found e es (x ∷ fs) less all =
      let apart : eq_by_cmp path_cmp x.0 e.0 ≡ false = ap is_eq (path_cmp_total.antisymm x.0 e.0 ∙ ap ordering_reverse less.0) in
      (ap (λ b. cond b (Some e.1) (find path_cmp x.0 es)) apart ∙ all.0, later_found e es fs less.1 all.1)

  each_found : (es : List (Names × X)) → IsStrictlySortedBy path_cmp (keys_of es) → AllByRecursion (λ x. find path_cmp x.0 es ≡ Some x.1) es
  each_found [] sorted = tt
  each_found (e ∷ es) sorted = (
    ap (λ b. cond b (Some e.1) (find path_cmp e.0 es)) (ap is_eq (tied_itself path_cmp_total e.0)),
    later_found e es es (sorted_head path_cmp e.0 (keys_of es) sorted) (each_found es (sorted_tail path_cmp e.0 (keys_of es) sorted)),
  )

  pub are_sorted : (tree : ByPath X) → IsStrictlySortedBy path_cmp (keys_of (map.entries tree))
  are_sorted tree = sorted-from_is_sorted path_cmp (map.entries tree) (map.entries_sorted tree)

  -- each entry of a tree stands in it
  pub each_stands : (tree : ByPath X) → AllByRecursion (λ e. map.get tree e.0 ≡ Some e.1) (map.entries tree)
  each_stands tree = weaker _ _ (λ e found. map.get-entries tree e.0 ∙ found) (map.entries tree) (each_found (map.entries tree) (are_sorted tree))

  -- where a test is true of one of its entries, one stands there
  pub there_from_any : (test : Names × X → Bool) (tree : ByPath X) → list_any test (map.entries tree) ≡ true → Met test (map.get tree)
  there_from_any test tree h = met_of test (map.get tree) (map.entries tree) (each_stands tree) h

  -- whether one of these entries has a path
  abbrev pub is_among : List (Names × X) → Names → Bool
  is_among es p = list_any (λ (e : Names × X). eq_by_cmp path_cmp p e.0) es

  pub among_entries : (tree : ByPath X) (p : Names) (x : X) → map.get tree p ≡ Some x → is_among (map.entries tree) p ≡ true
  among_entries tree p x there = any_from_there (λ (e : Names × X). eq_by_cmp path_cmp p e.0) tree p x there (itself p)

  -- behind a path, none of the entries that come later has it, nor one before it
  pub not_among : (p q : Names) (es : List (Names × X)) → AllByRecursion (λ k. path_cmp p k ≡ Less) (keys_of es) → (q ≡ p) → is_among es q ≡ false
  not_among p q [] all is = refl
  not_among p q (e ∷ es) all is =
      let apart : eq_by_cmp path_cmp q e.0 ≡ false = ap (λ (r : Names). eq_by_cmp path_cmp r e.0) is ∙ ap is_eq all.0 in
      ap (λ b. b || is_among es q) apart ∙ not_among p q es all.1 is

  pub before_all : (p q : Names) (es : List (Names × X)) → AllByRecursion (λ k. path_cmp p k ≡ Less) (keys_of es) → path_cmp q p ≡ Less → AllByRecursion (λ k. path_cmp q k ≡ Less) (keys_of es)
  before_all p q [] all less = tt
  before_all p q (e ∷ es) all less = (path_cmp_total.trans q p e.0 less all.0, before_all p q es all.1 less)
