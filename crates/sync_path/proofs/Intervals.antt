-- What lies at or below a path, and how that stands in path order.
use Rattle.std.proofs.Common.{◌≡◌, ℕ, true, false, eqb, List, [], ◌∷◌, ◌++◌, refl, sym, ap, ap₂, subst, ◌∙◌}
use Rattle.std.proofs.lemmas.Bool.{and_parts, and_from, true≢false}
use Rattle.std.proofs.lemmas.Cmp.{tied_itself, nat_list_cmp_total}
use Rattle.std.proofs.lemmas.Slice.Eq.{bytes_eq-Decides}
use Rattle.std.specs.declared.cmp.Ordering.{Ordering}
use Rattle.std.specs.declared.cmp.Ordering.TheVariants.{Less, Equal, Greater}
use Rattle.std.specs.Cmp.Lexicographic.{slice_cmp, texts_ties}
use Rattle.std.specs.Ordering.{nat_cmp, ordering_then, ordering_reverse, is_eq, is_gt}
use lib.Pointwise.{pointwise}
use Rattle.sync_path.specs.Path.{path_cmp, is_under}

abbrev name_cmp : List ℕ → List ℕ → Ordering
name_cmp = slice_cmp nat_cmp

names_exact : (n m : List ℕ) → name_cmp n m ≡ Equal → n ≡ m
names_exact n m e = (bytes_eq-Decides n m).0 (texts_ties n m ∙ ap is_eq e)

heads : {X : Type 0} (x y : X) (xs ys : List X) → x ∷ xs ≡ y ∷ ys → x ≡ y
heads x y xs ys e = cc

tails : {X : Type 0} (x y : X) (xs ys : List X) → x ∷ xs ≡ y ∷ ys → xs ≡ ys
tails x y xs ys e = cc

nil_not_cons : {X : Type 0} (y : X) (ys : List X) → [] ≡ y ∷ ys → ⊥
nil_not_cons y ys e = cc

-- only equal paths are level
pub path_cmp_exact : (xs ys : List (List ℕ)) → path_cmp xs ys ≡ Equal → xs ≡ ys
path_cmp_exact [] [] e = refl
path_cmp_exact [] (y ∷ ys) e = absurd (true≢false (ap is_eq (sym e)))
path_cmp_exact (x ∷ xs) [] e = absurd (true≢false (ap is_eq (sym e)))
path_cmp_exact (x ∷ xs) (y ∷ ys) e = by (name_cmp x y) refl e (path_cmp_exact xs ys)
  where
    by : (o : Ordering) → name_cmp x y ≡ o → ordering_then o (path_cmp xs ys) ≡ Equal → (path_cmp xs ys ≡ Equal → xs ≡ ys) → x ∷ xs ≡ y ∷ ys
    by Less f g more = absurd (true≢false (ap is_eq (sym g)))
    by Equal f g more = ap₂ (λ h l. h ∷ l) (names_exact x y f) (more g)
    by Greater f g more = absurd (true≢false (ap is_eq (sym g)))

-- what `is_under` says
pub rest_from_under : (path other : List (List ℕ)) → is_under path other ≡ true → (rest : List (List ℕ)) × (path ≡ other ++ rest)
rest_from_under path [] h = (path, refl)
rest_from_under [] (n ∷ ns) h = absurd (true≢false (sym h))
rest_from_under (p ∷ path) (n ∷ ns) h =
    let both = and_parts (pointwise eqb n p) (is_under path ns) h in
    let more = rest_from_under path ns both.1 in
    (more.0, ap₂ (λ x xs. x ∷ xs) (sym ((bytes_eq-Decides n p).0 both.0)) more.1)

pub under_from_rest : (path other rest : List (List ℕ)) → path ≡ other ++ rest → is_under path other ≡ true
under_from_rest path [] rest e = refl
under_from_rest [] (n ∷ ns) rest e = absurd (nil_not_cons n (ns ++ rest) e)
under_from_rest (p ∷ path) (n ∷ ns) rest e =
    and_from (pointwise eqb n p) (is_under path ns) ((bytes_eq-Decides n p).1 (sym (heads p n path (ns ++ rest) e))) (under_from_rest path ns rest (tails p n path (ns ++ rest) e))

-- a path stands before what lies below it
pub under_is_behind : (path below : List (List ℕ)) → is_under below path ≡ true → is_gt (path_cmp path below) ≡ false
under_is_behind [] [] h = refl
under_is_behind [] (b ∷ below) h = refl
under_is_behind (n ∷ ns) [] h = absurd (true≢false (sym h))
under_is_behind (n ∷ ns) (b ∷ below) h =
    let both = and_parts (pointwise eqb n b) (is_under below ns) h in
    let same : n ≡ b = (bytes_eq-Decides n b).0 both.0 in
    ap (λ o. is_gt (ordering_then o (path_cmp ns below))) (subst (λ m. name_cmp n m ≡ Equal) same (tied_itself nat_list_cmp_total n)) ∙ under_is_behind ns below both.1

-- what stands between two paths below a path lies below it
pub between_is_under : (path low middle high : List (List ℕ)) → is_under low path ≡ true → is_under high path ≡ true
    → is_gt (path_cmp low middle) ≡ false → is_gt (path_cmp middle high) ≡ false → is_under middle path ≡ true
between_is_under [] low middle high a b c d = refl
between_is_under (n ∷ ns) [] middle high a b c d = absurd (true≢false (sym a))
between_is_under (n ∷ ns) (l ∷ low) middle [] a b c d = absurd (true≢false (sym b))
between_is_under (n ∷ ns) (l ∷ low) [] (h ∷ high) a b c d = absurd (true≢false c)
between_is_under (n ∷ ns) (l ∷ low) (m ∷ middle) (h ∷ high) a b c d =
    let lows = and_parts (pointwise eqb n l) (is_under low ns) a in
    let highs = and_parts (pointwise eqb n h) (is_under high ns) b in
    let first : name_cmp l m ≡ name_cmp n m = ap (λ x. name_cmp x m) (sym ((bytes_eq-Decides n l).0 lows.0)) in
    let last : name_cmp m h ≡ ordering_reverse (name_cmp n m) = ap (name_cmp m) (sym ((bytes_eq-Decides n h).0 highs.0)) ∙ nat_list_cmp_total.antisymm m n in
    by (name_cmp n m) refl (ap (λ o. is_gt (ordering_then o (path_cmp low middle))) (sym first) ∙ c) (ap (λ o. is_gt (ordering_then o (path_cmp middle high))) (sym last) ∙ d)
    (between_is_under ns low middle high lows.1 highs.1)
  where
    by : (o : Ordering) → name_cmp n m ≡ o → is_gt (ordering_then o (path_cmp low middle)) ≡ false → is_gt (ordering_then (ordering_reverse o) (path_cmp middle high)) ≡ false
        → (is_gt (path_cmp low middle) ≡ false → is_gt (path_cmp middle high) ≡ false → is_under middle ns ≡ true) → is_under (m ∷ middle) (n ∷ ns) ≡ true
    by Less e f g more = absurd (true≢false g)
    by Greater e f g more = absurd (true≢false f)
    by Equal e f g more = and_from (pointwise eqb n m) (is_under middle ns) ((bytes_eq-Decides n m).1 (names_exact n m e)) (more f g)
