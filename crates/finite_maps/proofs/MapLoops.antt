-- What a `for` over the entries of a finite map comes to.
use Rattle.std.proofs.Common.{◌≡◌, Bool, true, false, cond, ◌||◌, List, [], ◌∷◌, ◌++◌, refl, sym, ap, subst, ◌∙◌, Option, Some, None, Ordering, Bor}
use Rattle.std.proofs.Common.{map as list_map}
use Rattle.std.specs.Prelude.{T, ◌&&◌}
use Rattle.std.specs.FinMap as map
use Rattle.std.specs.FinMap.{FinMap}
use Rattle.std.specs.FinMap.Entries.{below_all}
use Rattle.std.specs.Cmp.{IsTotalOrder, tied_itself}
use Rattle.std.specs.Iterator.{Yields}
use Rattle.std.specs.List.{list_any}
use Rattle.std.specs.Map.{keys_of}
use Rattle.std.specs.Map.Iter.{TakesFirst}
use Rattle.std.specs.Option.{is_some, option_copied}
use Rattle.std.specs.Ordering.{is_eq, is_lt, eq_by_cmp, ordering_reverse}
use Rattle.std.specs.declared.cmp.Ordering.TheVariants.{Less, Equal, Greater}
use Rattle.std.proofs.lemmas.List.{map_push}
use Rattle.std.proofs.lemmas.List.Folds.{list_any-append}
use Rattle.std.proofs.lemmas.Map.Iter.{rest_more, rest_so_far, iter_end}
use Rattle.std.proofs.Math.Bool.{or-false}

first : (a b : Bool) → T (a && b) → T a
first true b p = tt
first false b p = p

second : (a b : Bool) → T (a && b) → T b
second true b p = p
second false b p = absurd p

less : (r : Ordering) → T (is_lt r) → r ≡ Less
less Less p = refl
less Equal p = absurd p
less Greater p = absurd p

module _ {K X : Type 0} (R : K → K → Ordering) where
  less-from_below_all : (k : K) (es fs : List (K × X)) (e : K × X) → T (below_all R k (es ++ e ∷ fs)) → R k e.0 ≡ Less
  less-from_below_all k [] fs e h = less (R k e.0) (first _ _ h)
  less-from_below_all k (g ∷ es) fs e h = less-from_below_all k es fs e (second (is_lt (R k g.0)) _ h)

  -- an entry of a list in order is what a search finds at its key, which no entry before it has
  find-middle : IsTotalOrder R → (es fs : List (K × X)) (e : K × X) → T (map.is_sorted R (es ++ e ∷ fs))
      → (map.find R e.0 (es ++ e ∷ fs) ≡ Some e.1) × (list_any (eq_by_cmp R e.0) (keys_of es) ≡ false)
  find-middle o [] fs e h = (ap (λ r. cond (is_eq r) (Some e.1) (map.find R e.0 fs)) (tied_itself o e.0), refl)
  find-middle o (g ∷ es) fs e h =
      let rest = find-middle o es fs e (second (below_all R g.0 (es ++ e ∷ fs)) _ h) in
      let below = less-from_below_all g.0 es fs e (first _ _ h) in
      let apart : eq_by_cmp R e.0 g.0 ≡ false = ap is_eq (o.antisymm e.0 g.0 ∙ ap ordering_reverse below) in (
        ap (λ b. cond b (Some g.1) (map.find R e.0 (es ++ e ∷ fs))) apart ∙ rest.0,
        ap (λ b. b || list_any (eq_by_cmp R e.0) (keys_of es)) apart ∙ rest.1,
      )

-- whether a key is among those of the entries
abbrev pub is_among : {K X : Type 0} → (K → K → Ordering) → List (K × X) → K → Bool
is_among R es q = list_any (eq_by_cmp R q) (keys_of es)

pub is_among-push : {K X A : Type 0} (R : K → K → Ordering) (shows : A → K × X) (xs : List A) (x : A) (q : K)
    → is_among R (list_map shows (xs ++ x ∷ [])) q ≡ (is_among R (list_map shows xs) q || eq_by_cmp R q (shows x).0)
is_among-push R shows xs x q =
    ap (λ es. is_among R es q) (map_push shows xs x)
    ∙ ap (list_any (eq_by_cmp R q)) (map_push (λ e. e.0) (list_map shows xs) (shows x))
    ∙ list_any-append (eq_by_cmp R q) (keys_of (list_map shows xs)) ((shows x).0 ∷ [])
    ∙ ap (λ b. is_among R (list_map shows xs) q || b) (or-false (eq_by_cmp R q (shows x).0))

-- a `for` over a map's entries, which began with them all, has yielded xs, and has t left
module _ {A K X : Type 0} {R : K → K → Ordering} (o : IsTotalOrder R) (shows : A → K × X) (m : FinMap R X) (xs : List A) (s t u : List (K × X)) (r : Option A) (start : s ≡ map.entries m) (y : Yields (TakesFirst shows) s xs t) where
  -- its item is what the map has at its key, which no item before had
  pub entries_turn : (x : A) → r ≡ Some x → TakesFirst shows t r u
      → (map.get m (shows x).0 ≡ Some (shows x).1) × (is_among R (list_map shows xs) (shows x).0 ≡ false)
  entries_turn x e h =
      let all : map.entries m ≡ list_map shows xs ++ shows x ∷ u = sym start ∙ rest_so_far shows xs s t y ∙ ap (λ l. list_map shows xs ++ l) (rest_more shows t u r x e h) in
      let middle = find-middle R o (list_map shows xs) u (shows x) (subst (λ es. T (map.is_sorted R es)) all (map.entries_sorted m)) in
      (map.get-entries m (shows x).0 ∙ ap (map.find R (shows x).0) all ∙ middle.0, middle.1)

  -- at its end its items had the map's keys
  pub entries_end : r ≡ None → TakesFirst shows t r u → (q : K) → map.contains_key m q ≡ is_among R (list_map shows xs) q
  entries_end e h q =
      map.contains_key-keys m q ∙ ap (λ es. is_among R es q) (sym (iter_end shows (map.entries m) xs s t u r start y e h).0)

-- what `get` lends says whether the map has the key
pub contains_key-from_get : {K X : Type 0} {R : K → K → Ordering} (m : FinMap R X) (k : K) (r : Option (Bor X)) → option_copied r ≡ map.get m k → map.contains_key m k ≡ is_some r
contains_key-from_get m k None e = ap is_some (sym e)
contains_key-from_get m k (Some x) e = ap is_some (sym e)

no_value : {X : Type 0} (x : Option X) → is_some x ≡ false → x ≡ None
no_value None e = refl
no_value (Some x) e = absurd (cc)

pub get-none : {K X : Type 0} {R : K → K → Ordering} (m : FinMap R X) (k : K) → map.contains_key m k ≡ false → map.get m k ≡ None
get-none m k e = no_value (map.get m k) e
