-- The rows of three trees are what three merges give.
use Rattle.std.proofs.Common.{◌≡◌, ℕ, Bool, true, false, cond, ◌||◌, ◌+◌, not, List, [], ◌∷◌, ◌++◌, map, take, drop, refl, sym, ap, subst, ◌∙◌, Option, Some, None}
use Rattle.std.specs.Prelude.{T}
use Rattle.std.specs.FinMap as trees
use Rattle.std.specs.FinMap.Entries.{same_entries, is_sorted}
use Rattle.std.specs.List.{list_all, list_any}
use Rattle.std.specs.Option.{is_some}
use Rattle.std.specs.Ordering.{is_lt, is_eq, eq_by_cmp, ordering_reverse}
use Rattle.std.specs.declared.cmp.Ordering.{Ordering}
use Rattle.std.specs.declared.cmp.Ordering.TheVariants.{Less, Equal, Greater}
use Rattle.std.proofs.lemmas.Bool.{and_parts, and_from}
use Rattle.std.proofs.lemmas.Cmp.{tied_itself}
use Rattle.std.proofs.lemmas.List.{map-append, take-append-drop}
use Rattle.std.proofs.lemmas.List.Folds.{list_all-append}
use Rattle.sync_path.specs.Path.{path_cmp}
use Rattle.sync_path.specs.PathOrder.{path_cmp_total}
use Rattle.entry_tree.specs.Tree.{Names, ByPath}
use Rattle.entry_tree.specs.declared.atom.Atom.{Atom}
use Rattle.entry_tree.proofs.Copies.{or_else}
use Rattle.entry_tree.proofs.Paths.{path_same}
use Rattle.entry_tree.proofs.Trees.{tie_is}
use Rattle.mode_rules.specs.Trees.{Trees, paths_of}
use Rattle.mode_rules.proofs.Held.{has_path}
use Rattle.reconcile.specs.declared.part.Part.{Part}
use Rattle.reconcile.specs.declared.part.Part.TheVariants as parts
use Rattle.reconcile.specs.Rows.{Three, PathThree, row_of, rows_of, nothing, with_part, front_len, held_at, met_len, joined}
use Rattle.reconcile.proofs.Order.{is_before, rises, keys_rise, map_rises, take_one, drop_one}

abbrev keys : {X : Type 0} → List (Names × X) → List Names
keys es = map (λ e. e.0) es

abbrev finds : {X : Type 0} → Names → List (Names × X) → Option X
finds q es = trees.find path_cmp q es

is_less : (o : Ordering) → is_lt o ≡ true → o ≡ Less
is_less Less e = refl
is_less Equal e = absurd (cc)
is_less Greater e = absurd (cc)

before_less : (p q : Names) → is_before p q ≡ true → path_cmp p q ≡ Less
before_less p q h = is_less (path_cmp p q) h

before_through : (p q r : Names) → is_before p q ≡ true → is_before q r ≡ true → is_before p r ≡ true
before_through p q r h g = ap is_lt (path_cmp_total.trans p q r (before_less p q h) (before_less q r g))

all_through : (p q : Names) (ps : List Names) → is_before p q ≡ true → list_all (is_before q) ps ≡ true → list_all (is_before p) ps ≡ true
all_through p q [] h g = refl
all_through p q (r ∷ ps) h g =
    let both = and_parts (is_before q r) (list_all (is_before q) ps) g in
    and_from (is_before p r) _ (before_through p q r h both.0) (all_through p q ps h both.1)

apart_before : (p q : Names) → is_before p q ≡ true → eq_by_cmp path_cmp p q ≡ false
apart_before p q h = ap is_eq (before_less p q h)

apart_behind : (p q : Names) → is_before p q ≡ true → eq_by_cmp path_cmp q p ≡ false
apart_behind p q h = ap is_eq (path_cmp_total.antisymm q p ∙ ap ordering_reverse (before_less p q h))

module _ {X : Type 0} where
  -- a path before all the keys isn't among them
  not_found : (q : Names) (es : List (Names × X)) → list_all (is_before q) (keys es) ≡ true → finds q es ≡ None
  not_found q [] h = refl
  not_found q (e ∷ es) h =
      let both = and_parts (is_before q e.0) (list_all (is_before q) (keys es)) h in
      ap (λ b. cond b (Some e.1) (finds q es)) (apart_before q e.0 both.0) ∙ not_found q es both.1

  finds-append : (q : Names) (xs ys : List (Names × X)) → finds q (xs ++ ys) ≡ or_else (finds q xs) (finds q ys)
  finds-append q [] ys = refl
  finds-append q (e ∷ xs) ys = by (eq_by_cmp path_cmp q e.0) (finds-append q xs ys)
    where
      by : (c : Bool) → finds q (xs ++ ys) ≡ or_else (finds q xs) (finds q ys) → cond c (Some e.1) (finds q (xs ++ ys)) ≡ or_else (cond c (Some e.1) (finds q xs)) (finds q ys)
      by true more = refl
      by false more = more

  abbrev all_before : Names → List (Names × X) → Bool
  all_before k es = list_all (λ e. is_before e.0 k) es

  -- where all stand before a path, it isn't among them
  not_found_behind : (k : Names) (es : List (Names × X)) → all_before k es ≡ true → finds k es ≡ None
  not_found_behind k [] h = refl
  not_found_behind k (e ∷ es) h =
      let both = and_parts (is_before e.0 k) (all_before k es) h in
      ap (λ b. cond b (Some e.1) (finds k es)) (apart_behind e.0 k both.0) ∙ not_found_behind k es both.1

  -- and what is among them stands before it
  found_before : (q k : Names) (x : X) (es : List (Names × X)) → all_before k es ≡ true → finds q es ≡ Some x → is_before q k ≡ true
  found_before q k x [] h is = absurd (cc)
  found_before q k x (e ∷ es) h is =
      let both = and_parts (is_before e.0 k) (all_before k es) h in
      by (eq_by_cmp path_cmp q e.0) refl both.0 (found_before q k x es both.1) is
    where
      by : (c : Bool) → eq_by_cmp path_cmp q e.0 ≡ c → is_before e.0 k ≡ true → (finds q es ≡ Some x → is_before q k ≡ true) → cond c (Some e.1) (finds q es) ≡ Some x → is_before q k ≡ true
      by true t here more is = ap (λ p. is_before p k) (tie_is q e.0 t) ∙ here
      by false t here more is = more is

  -- what stands before a path, the path, and what stands behind it rise
  rises_joined : (k : Names) (xs ys : List (Names × X)) (x : X) → all_before k xs ≡ true → rises (keys xs) ≡ true → list_all (is_before k) (keys ys) ≡ true → rises (keys ys) ≡ true
      → rises (keys (xs ++ (k, x) ∷ ys)) ≡ true
  rises_joined k [] ys x before front later back = and_from (list_all (is_before k) (keys ys)) _ later back
  rises_joined k (e ∷ xs) ys x before front later back =
      let b = and_parts (is_before e.0 k) (all_before k xs) before in
      let f = and_parts (list_all (is_before e.0) (keys xs)) (rises (keys xs)) front in
      and_from (list_all (is_before e.0) (keys (xs ++ (k, x) ∷ ys))) _
      (ap (list_all (is_before e.0)) (map-append (λ (e : Names × X). e.0) xs ((k, x) ∷ ys)) ∙ list_all-append (is_before e.0) (keys xs) (k ∷ keys ys)
      ∙ and_from (list_all (is_before e.0) (keys xs)) _ f.0 (and_from (is_before e.0 k) _ b.0 (all_through e.0 k (keys ys) b.0 later)))
      (rises_joined k xs ys x b.1 f.1 later back)

  all_front : (f : Names → Bool) (xs ys : List (Names × X)) → list_all f (keys (xs ++ ys)) ≡ true → (list_all f (keys xs) ≡ true) × (list_all f (keys ys) ≡ true)
  all_front f xs ys h =
      and_parts (list_all f (keys xs)) (list_all f (keys ys))
      (sym (ap (list_all f) (map-append (λ (e : Names × X). e.0) xs ys) ∙ list_all-append f (keys xs) (keys ys)) ∙ h)

  rises_parts : (xs ys : List (Names × X)) → rises (keys (xs ++ ys)) ≡ true → (rises (keys xs) ≡ true) × (rises (keys ys) ≡ true)
  rises_parts [] ys h = (refl, h)
  rises_parts (e ∷ xs) ys h =
      let both = and_parts (list_all (is_before e.0) (keys (xs ++ ys))) (rises (keys (xs ++ ys))) h in
      let more = rises_parts xs ys both.1 in
      (and_from (list_all (is_before e.0) (keys xs)) _ (all_front (is_before e.0) xs ys both.0).0 more.0, more.1)

-- whether the first of the rows doesn't stand before the path
abbrev stops : Names → List PathThree → Bool
stops k [] = true
stops k (row ∷ rows) = not (is_before row.0 k)

-- The rows before a path, and those from it on.
record Split (k : Names) (rows front back : List PathThree) : Type 0 where
  whole : rows ≡ front ++ back
  before : all_before k front ≡ true
  stop : stops k back ≡ true

split : (k : Names) (rows : List PathThree) → Split k rows (take (front_len k rows) rows) (drop (front_len k rows) rows)
split k [] = record { whole = refl; before = refl; stop = refl }
split k (row ∷ rows) = by (is_before row.0 k) refl (split k rows)
  where
    by : (c : Bool) → is_before row.0 k ≡ c → Split k rows (take (front_len k rows) rows) (drop (front_len k rows) rows)
        → Split k (row ∷ rows) (take (cond c (1 + front_len k rows) 0) (row ∷ rows)) (drop (cond c (1 + front_len k rows) 0) (row ∷ rows))
    by true e s =
        subst (λ (p : List PathThree × List PathThree). Split k (row ∷ rows) p.0 p.1) (λ i. (sym (take_one row rows (front_len k rows)) i, sym (drop_one row rows (front_len k rows)) i))
        (record { whole = ap (λ l. row ∷ l) s.whole; before = and_from (is_before row.0 k) _ e s.before; stop = s.stop })
    by false e s = record { whole = refl; before = refl; stop = ap not e }

-- what one more tree's atom makes of what was found
abbrev combined : Part → Option Three → Option Atom → Option Three
combined part None None = None
combined part (Some three) None = Some three
combined part None (Some atom) = Some (with_part part nothing atom)
combined part (Some three) (Some atom) = Some (with_part part three atom)

combined_none : (part : Part) (o : Option Three) → o ≡ combined part o None
combined_none part None = refl
combined_none part (Some three) = refl

-- What of the rows from a path on is left behind it.
record Behind (part : Part) (k : Names) (back rest : List PathThree) : Type 0 where
  later : list_all (is_before k) (keys rest) ≡ true
  sorted : rises (keys rest) ≡ true
  here : (atom : Atom) → combined part (finds k back) (Some atom) ≡ Some (with_part part (held_at k back) atom)
  others : (q : Names) → eq_by_cmp path_cmp q k ≡ false → finds q rest ≡ finds q back

behind_first : (o : Ordering) → is_lt o ≡ false → is_eq o ≡ false → is_lt (ordering_reverse o) ≡ true
behind_first Less h g = absurd (cc)
behind_first Equal h g = absurd (cc)
behind_first Greater h g = refl

was_false : (b : Bool) → not b ≡ true → b ≡ false
was_false true h = absurd (cc)
was_false false h = refl

behind : (part : Part) (k : Names) (back : List PathThree) → stops k back ≡ true → rises (keys back) ≡ true → Behind part k back (drop (met_len k back) back)
behind part k [] stop sorted = record { later = refl; sorted = refl; here = λ atom. refl; others = λ q e. refl }
behind part k (row ∷ rows) stop sorted = by (eq_by_cmp path_cmp row.0 k) refl
  where
    tied : row.0 ≡ k → finds k (row ∷ rows) ≡ Some row.1
    tied same = ap (λ o. cond (is_eq o) (Some row.1) (finds k rows)) (ap (path_cmp k) same ∙ tied_itself path_cmp_total k)

    by : (c : Bool) → eq_by_cmp path_cmp row.0 k ≡ c → Behind part k (row ∷ rows) (drop (cond c 1 0) (row ∷ rows))
    by true e =
        let same : row.0 ≡ k = tie_is row.0 k e in
        let both = and_parts (list_all (is_before row.0) (keys rows)) (rises (keys rows)) sorted in
        record {
          later = subst (λ p. list_all (is_before p) (keys rows) ≡ true) same both.0;
          sorted = both.1;
          here = λ atom. ap (λ (o : Option Three). combined part o (Some atom)) (tied same) ∙ ap (λ b. Some (with_part part (cond b row.1 nothing) atom)) (sym e);
          others = λ q apart. ap (λ b. cond b (Some row.1) (finds q rows)) (sym (ap (eq_by_cmp path_cmp q) same ∙ apart));
        }
    by false e =
        let first : is_before k row.0 ≡ true = ap is_lt (path_cmp_total.antisymm k row.0) ∙ behind_first (path_cmp row.0 k) (was_false (is_before row.0 k) stop) e in
        let both = and_parts (list_all (is_before row.0) (keys rows)) (rises (keys rows)) sorted in
        let all : list_all (is_before k) (keys (row ∷ rows)) ≡ true = and_from (is_before k row.0) _ first (all_through k row.0 (keys rows) first both.0) in
        record {
          later = all;
          sorted = sorted;
          here = λ atom. ap (λ (o : Option Three). combined part o (Some atom)) (not_found k (row ∷ rows) all) ∙ ap (λ b. Some (with_part part (cond b row.1 nothing) atom)) (sym e);
          others = λ q apart. refl;
        }

all_drop : (f : Names → Bool) (n : ℕ) (xs : List PathThree) → list_all f (keys xs) ≡ true → (list_all f (keys (take n xs)) ≡ true) × (list_all f (keys (drop n xs)) ≡ true)
all_drop f n xs h = all_front f (take n xs) (drop n xs) (ap (λ l. list_all f (keys l)) (take-append-drop n xs) ∙ h)

-- what is said of all the keys of both is said of those of what they are joined to
all_joined : (part : Part) (f : Names → Bool) (es : List (Names × Atom)) (rows : List PathThree) → list_all f (keys rows) ≡ true → list_all f (keys es) ≡ true → list_all f (keys (joined part rows es)) ≡ true
unfolding joined
all_joined part f [] rows h g = h
all_joined part f (e ∷ es) rows h g =
    let n = front_len e.0 rows in
    let both = and_parts (f e.0) (list_all f (keys es)) g in
    let parts = all_drop f n rows h in
    let rest = drop (met_len e.0 (drop n rows)) (drop n rows) in
    ap (list_all f) (map-append (λ (r : PathThree). r.0) (take n rows) ((e.0, with_part part (held_at e.0 (drop n rows)) e.1) ∷ joined part rest es))
    ∙ list_all-append f (keys (take n rows)) (e.0 ∷ keys (joined part rest es))
    ∙ and_from (list_all f (keys (take n rows))) _ parts.0
    (and_from (f e.0) _ both.0 (all_joined part f es rest (all_drop f (met_len e.0 (drop n rows)) (drop n rows) parts.1).1 both.1))

-- What the rows are joined to is in order, and holds what each holds.
record Joins (part : Part) (rows : List PathThree) (es : List (Names × Atom)) : Type 0 where
  sorted : rises (keys (joined part rows es)) ≡ true
  found : (q : Names) → finds q (joined part rows es) ≡ combined part (finds q rows) (finds q es)

found_step : (part : Part) (k q : Names) (atom : Atom) (es : List (Names × Atom)) (rows front back rest more : List PathThree)
    → Split k rows front back → Behind part k back rest → list_all (is_before k) (keys es) ≡ true → finds q more ≡ combined part (finds q rest) (finds q es)
    → finds q (front ++ (k, with_part part (held_at k back) atom) ∷ more) ≡ combined part (finds q rows) (finds q ((k, atom) ∷ es))
found_step part k q atom es rows front back rest more s b later e =
    finds-append q front ((k, with_part part (held_at k back) atom) ∷ more)
    ∙ by (eq_by_cmp path_cmp q k) refl (finds q front) refl
    ∙ ap (λ (o : Option Three). combined part o (finds q ((k, atom) ∷ es))) (sym (ap (finds q) s.whole ∙ finds-append q front back))
  where
    by : (c : Bool) → eq_by_cmp path_cmp q k ≡ c → (o : Option Three) → finds q front ≡ o
        → or_else (finds q front) (cond (eq_by_cmp path_cmp q k) (Some (with_part part (held_at k back) atom)) (finds q more))
        ≡ combined part (or_else (finds q front) (finds q back)) (cond (eq_by_cmp path_cmp q k) (Some atom) (finds q es))
    by true t o f =
        let same : q ≡ k = tie_is q k t in
        let none : finds q front ≡ None = ap (λ p. finds p front) same ∙ not_found_behind k front s.before in
        (λ i. or_else (none i) (cond (t i) (Some (with_part part (held_at k back) atom)) (finds q more)))
        ∙ sym (b.here atom)
        ∙ ap (λ p. combined part (finds p back) (Some atom)) (sym same)
        ∙ sym (λ i. combined part (or_else (none i) (finds q back)) (cond (t i) (Some atom) (finds q es)))
    by false t None f =
        (λ i. or_else (f i) (cond (t i) (Some (with_part part (held_at k back) atom)) (finds q more)))
        ∙ e ∙ ap (λ (o : Option Three). combined part o (finds q es)) (b.others q t)
        ∙ sym (λ i. combined part (or_else (f i) (finds q back)) (cond (t i) (Some atom) (finds q es)))
    by false t (Some x) f =
        let none : finds q es ≡ None = not_found q es (all_through q k (keys es) (found_before q k x front s.before f) later) in
        (λ i. or_else (f i) (cond (t i) (Some (with_part part (held_at k back) atom)) (finds q more)))
        ∙ ap (combined part (Some x)) (sym none)
        ∙ sym (λ i. combined part (or_else (f i) (finds q back)) (cond (t i) (Some atom) (finds q es)))

joins : (part : Part) (es : List (Names × Atom)) (rows : List PathThree) → rises (keys rows) ≡ true → rises (keys es) ≡ true → Joins part rows es
unfolding joined
joins part [] rows h g = record { sorted = h; found = λ q. combined_none part (finds q rows) }
joins part (e ∷ es) rows h g =
    let n = front_len e.0 rows in
    let s = split e.0 rows in
    let parts = rises_parts (take n rows) (drop n rows) (ap (λ l. rises (keys l)) (sym s.whole) ∙ h) in
    let b = behind part e.0 (drop n rows) s.stop parts.1 in
    let both = and_parts (list_all (is_before e.0) (keys es)) (rises (keys es)) g in
    let rest = drop (met_len e.0 (drop n rows)) (drop n rows) in
    let more = joins part es rest b.sorted both.1 in
    record {
      sorted = rises_joined e.0 (take n rows) (joined part rest es) (with_part part (held_at e.0 (drop n rows)) e.1) s.before parts.0 (all_joined part (is_before e.0) es rest b.later both.0) more.sorted;
      found = λ q. found_step part e.0 q e.1 es rows (take n rows) (drop n rows) rest (joined part rest es) s b both.0 (more.found q);
    }

found_row : (t : Trees) (q : Names) (ps : List Names) → finds q (map (row_of t) ps) ≡ cond (list_any (eq_by_cmp path_cmp q) ps) (Some (row_of t q).1) None
found_row t q [] = refl
found_row t q (p ∷ ps) = by (eq_by_cmp path_cmp q p) refl (found_row t q ps)
  where
    by : (c : Bool) → eq_by_cmp path_cmp q p ≡ c → finds q (map (row_of t) ps) ≡ cond (list_any (eq_by_cmp path_cmp q) ps) (Some (row_of t q).1) None
        → cond c (Some (row_of t p).1) (finds q (map (row_of t) ps)) ≡ cond (c || list_any (eq_by_cmp path_cmp q) ps) (Some (row_of t q).1) None
    by true e more = ap (λ x. Some (row_of t x).1) (sym (tie_is q p e))
    by false e more = more

keys_of_rows : (t : Trees) (ps : List Names) → keys (map (row_of t) ps) ≡ ps
keys_of_rows t [] = refl
keys_of_rows t (p ∷ ps) = ap (λ l. p ∷ l) (keys_of_rows t ps)

all_three : (a l r : Option Atom) → combined parts.Beta (combined parts.Alpha (combined parts.Ancestor None a) l) r
    ≡ cond ((is_some a || is_some l) || is_some r) (Some (record { ancestor = a; alpha = l; beta = r })) None
all_three None None None = refl
all_three None None (Some r) = refl
all_three None (Some l) None = refl
all_three None (Some l) (Some r) = refl
all_three (Some a) None None = refl
all_three (Some a) None (Some r) = refl
all_three (Some a) (Some l) None = refl
all_three (Some a) (Some l) (Some r) = refl

paths_rise : (t : Trees) → rises (paths_of t) ≡ true
paths_rise t = map_rises (trees.from_entries _)

entries_rise : {X : Type 0} (m : ByPath X) → rises (keys (trees.entries m)) ≡ true
entries_rise m = map_rises m

in_order : (es : List PathThree) → rises (keys es) ≡ true → T (is_sorted path_cmp es)
in_order es h = subst T (sym (keys_rise es ∙ h)) tt

-- three merges give the rows
pub joined_rows : (t : Trees) → joined parts.Beta (joined parts.Alpha (joined parts.Ancestor [] (trees.entries t.ancestor)) (trees.entries t.alpha)) (trees.entries t.beta) ≡ rows_of t
joined_rows t =
    let first = joins parts.Ancestor (trees.entries t.ancestor) [] refl (entries_rise t.ancestor) in
    let second = joins parts.Alpha (trees.entries t.alpha) (joined parts.Ancestor [] (trees.entries t.ancestor)) first.sorted (entries_rise t.alpha) in
    let third = joins parts.Beta (trees.entries t.beta) (joined parts.Alpha (joined parts.Ancestor [] (trees.entries t.ancestor)) (trees.entries t.alpha)) second.sorted (entries_rise t.beta) in
    same_entries path_cmp path_cmp_total path_same
    (joined parts.Beta (joined parts.Alpha (joined parts.Ancestor [] (trees.entries t.ancestor)) (trees.entries t.alpha)) (trees.entries t.beta)) (rows_of t) (in_order (joined parts.Beta (joined parts.Alpha (joined parts.Ancestor [] (trees.entries t.ancestor)) (trees.entries t.alpha)) (trees.entries t.beta)) third.sorted)
    (in_order (rows_of t) (ap rises (keys_of_rows t (paths_of t)) ∙ paths_rise t))
    (λ q. third.found q
    ∙ ap (λ (o : Option Three). combined parts.Beta o (finds q (trees.entries t.beta))) (second.found q ∙ ap (λ (o : Option Three). combined parts.Alpha o (finds q (trees.entries t.alpha))) (first.found q))
    ∙ (λ i. combined parts.Beta (combined parts.Alpha (combined parts.Ancestor None (sym (trees.get-entries t.ancestor q) i)) (sym (trees.get-entries t.alpha q) i)) (sym (trees.get-entries t.beta q) i))
    ∙ all_three (trees.get t.ancestor q) (trees.get t.alpha q) (trees.get t.beta q)
    ∙ ap (λ b. cond b (Some (row_of t q).1) None) (sym (has_path t q))
    ∙ sym (found_row t q (paths_of t)))
