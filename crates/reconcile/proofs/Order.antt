-- Lists of paths that rise in path order, and what of them lies at or below a path.
use Rattle.std.proofs.Common.{◌≡◌, ℕ, suc, Bool, true, false, cond, ◌&&◌, ◌+◌, not, List, [], ◌∷◌, ◌++◌, map, take, drop, refl, sym, ap, ap₂, ◌∙◌, arith}
use Rattle.std.specs.Prelude.{T}
use Rattle.std.specs.FinMap as trees
use Rattle.std.specs.FinMap.Entries.{is_sorted, below_all}
use Rattle.std.specs.List.{list_all, prefix_len}
use Rattle.std.specs.declared.cmp.Ordering.{Ordering}
use Rattle.std.specs.declared.cmp.Ordering.TheVariants.{Less, Equal, Greater}
use Rattle.std.specs.Ordering.{is_lt, is_gt, ordering_reverse}
use Rattle.std.proofs.lemmas.Bool.{and_parts, and_from, true≢false}
use Rattle.sync_path.specs.Path.{path_cmp, is_under}
use Rattle.sync_path.specs.PathOrder.{path_cmp_total}
use Rattle.sync_path.proofs.Intervals.{rest_from_under, under_from_rest, under_is_behind, between_is_under}
use Rattle.entry_tree.specs.Tree.{Names, ByPath}

-- whether a path stands before another
abbrev pub is_before : Names → Names → Bool
is_before p q = is_lt (path_cmp p q)

-- whether each path stands before all that follow it
abbrev pub rises : List Names → Bool
rises [] = true
rises (p ∷ ps) = list_all (is_before p) ps && rises ps

keys_behind : {X : Type 0} (k : Names) (es : List (Names × X)) → below_all path_cmp k es ≡ list_all (is_before k) (map (λ e. e.0) es)
keys_behind k [] = refl
keys_behind k (e ∷ es) = ap (λ b. is_before k e.0 && b) (keys_behind k es)

-- a list of entries is in order exactly where its keys rise
pub keys_rise : {X : Type 0} (es : List (Names × X)) → is_sorted path_cmp es ≡ rises (map (λ e. e.0) es)
keys_rise [] = refl
keys_rise (e ∷ es) = ap₂ (λ a b. a && b) (keys_behind e.0 es) (keys_rise es)

is_true : (b : Bool) → T b → b ≡ true
is_true true h = refl
is_true false h = absurd h

-- the keys of a map rise
pub map_rises : {X : Type 0} (m : ByPath X) → rises (trees.keys m) ≡ true
map_rises m = sym (keys_rise (trees.entries m)) ∙ is_true _ (trees.entries_sorted m)

gt_from_lt : (o : Ordering) → is_lt o ≡ true → is_gt o ≡ false
gt_from_lt Less e = refl
gt_from_lt Equal e = refl
gt_from_lt Greater e = absurd (true≢false (sym e))

gt_turned : (o : Ordering) → is_lt o ≡ true → is_gt (ordering_reverse o) ≡ true
gt_turned Less e = refl
gt_turned Equal e = absurd (true≢false (sym e))
gt_turned Greater e = absurd (true≢false (sym e))

pub is_false : (b : Bool) → (b ≡ true → ⊥) → b ≡ false
is_false true h = absurd (h refl)
is_false false h = refl

-- what stands before a path doesn't lie at or below it
pub before_is_not_under : (p q : Names) → is_before p q ≡ true → is_under p q ≡ false
before_is_not_under p q h = is_false _ (λ u.
    true≢false (sym (gt_turned (path_cmp p q) h) ∙ ap is_gt (sym (path_cmp_total.antisymm q p)) ∙ under_is_behind q p u))

append_nothing : (xs : Names) → xs ≡ xs ++ []
append_nothing [] = refl
append_nothing (x ∷ xs) = ap (λ ys. x ∷ ys) (append_nothing xs)

-- a path lies at itself
pub under_itself : (p : Names) → is_under p p ≡ true
under_itself p = under_from_rest p p [] (append_nothing p)

joined : (xs ys zs : Names) → xs ++ ys ++ zs ≡ xs ++ (ys ++ zs)
joined [] ys zs = refl
joined (x ∷ xs) ys zs = ap (λ l. x ∷ l) (joined xs ys zs)

-- what lies below what lies below a path lies below it
pub under_through : (q p path : Names) → is_under q p ≡ true → is_under p path ≡ true → is_under q path ≡ true
under_through q p path a b =
    let low = rest_from_under q p a in
    let high = rest_from_under p path b in
    under_from_rest q path (high.0 ++ low.0) (low.1 ∙ ap (λ xs. xs ++ low.0) high.1 ∙ joined path high.0 low.0)

-- what stands behind a path that isn't under another, behind which it stands, isn't either
pub past_the_run : (path b : Names) (bs : List Names) → is_before path b ≡ true → is_under b path ≡ false → list_all (is_before b) bs ≡ true
    → list_all (λ q. not (is_under q path)) bs ≡ true
past_the_run path b [] first out h = refl
past_the_run path b (q ∷ bs) first out h =
    let both = and_parts (is_before b q) (list_all (is_before b) bs) h in
    and_from (not (is_under q path)) _
    (ap not (is_false (is_under q path) (λ u. true≢false (sym (between_is_under path path b q (under_itself path) u (gt_from_lt _ first) (gt_from_lt _ both.0)) ∙ out))))
    (past_the_run path b bs first out both.1)

pub take_one : {X : Type 0} (x : X) (xs : List X) (n : ℕ) → take (1 + n) (x ∷ xs) ≡ x ∷ take n xs
take_one x xs n = let e : 1 + n ≡ suc n = omega arith in ap (λ k. take k (x ∷ xs)) e

pub drop_one : {X : Type 0} (x : X) (xs : List X) (n : ℕ) → drop (1 + n) (x ∷ xs) ≡ drop n xs
drop_one x xs n = let e : 1 + n ≡ suc n = omega arith in ap (λ k. drop k (x ∷ xs)) e

-- the paths of a run lie below its path
pub run_is_under : (path : Names) (below : List Names) → list_all (λ p. is_under p path) (take (prefix_len (λ p. is_under p path) below) below) ≡ true
run_is_under path [] = refl
run_is_under path (b ∷ bs) = by (is_under b path) refl (run_is_under path bs)
  where
    by : (c : Bool) → is_under b path ≡ c → list_all (λ p. is_under p path) (take (prefix_len (λ p. is_under p path) bs) bs) ≡ true → list_all (λ p. is_under p path) (take (cond c (1 + prefix_len (λ p. is_under p path) bs) 0) (b ∷ bs)) ≡ true
    by true e more = ap (list_all (λ p. is_under p path)) (take_one b bs (prefix_len (λ p. is_under p path) bs)) ∙ and_from _ _ e more
    by false e more = refl

-- the paths behind it don't
pub rest_is_not_under : (path : Names) (below : List Names) → list_all (is_before path) below ≡ true → rises below ≡ true
    → list_all (λ q. not (is_under q path)) (drop (prefix_len (λ p. is_under p path) below) below) ≡ true
rest_is_not_under path [] h r = refl
rest_is_not_under path (b ∷ bs) h r =
    by (is_under b path) refl (rest_is_not_under path bs (and_parts (is_before path b) _ h).1 (and_parts (list_all (is_before b) bs) _ r).1)
  where
    by : (c : Bool) → is_under b path ≡ c → list_all (λ q. not (is_under q path)) (drop (prefix_len (λ p. is_under p path) bs) bs) ≡ true → list_all (λ q. not (is_under q path)) (drop (cond c (1 + prefix_len (λ p. is_under p path) bs) 0) (b ∷ bs)) ≡ true
    by true e more = ap (list_all (λ q. not (is_under q path))) (drop_one b bs (prefix_len (λ p. is_under p path) bs)) ∙ more
    by false e more =
        and_from (not (is_under b path)) _ (ap not e)
        (past_the_run path b bs (and_parts (is_before path b) _ h).0 e (and_parts (list_all (is_before b) bs) _ r).0)
