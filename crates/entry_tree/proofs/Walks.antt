-- A walk from a path on, as long as it stays under the path, meets what lies there, and all of it.
use Rattle.std.proofs.Common.{◌≡◌, Bool, true, false, cond, ◌&&◌, List, [], ◌∷◌, refl, sym, ap, ◌∙◌, Ordering}
use Rattle.std.specs.List.{AllByRecursion, filter}
use Rattle.std.specs.List.Sorted.{IsStrictlySortedBy}
use Rattle.std.specs.Map.{keys_of}
use Rattle.std.specs.Ordering.{is_le, is_lt}
use Rattle.std.specs.BTreeMap.Range.{range_contains}
use Rattle.std.specs.Range.Bound.{IsForward}
use Rattle.std.specs.declared.ops.Bound.{Bound}
use Rattle.std.specs.declared.ops.Bound.TheVariants.{Included, Excluded, Unbounded}
use Rattle.std.specs.declared.cmp.Ordering.TheVariants.{Less, Equal, Greater}
use Rattle.std.proofs.lemmas.Map.Keys.{sorted_head, sorted_tail}
use Rattle.sync_path.specs.Path.{path_cmp, is_under}
use Rattle.entry_tree.specs.Tree.{Names, is_below}
use Rattle.entry_tree.specs.Walk.{front_under, StartsAt, is_met}
use Rattle.entry_tree.proofs.Paths.{under_le, under_between, below_is}

-- a range with no end is never backwards
pub forward : {K : Type 0} (P Q : K → K → Type 0) (b : Bound K) → IsForward P Q b Unbounded
forward P Q (Included a) = tt
forward P Q (Excluded a) = tt
forward P Q Unbounded = tt

module _ (p : Names) (from inside : Names → Bool) (within : (k : Names) → from k ≡ true → is_under k p ≡ inside k) (before : (k : Names) → from k ≡ false → inside k ≡ false) (above : (k : Names) → from k ≡ true → is_le (path_cmp p k) ≡ true) where
  not_later : (a y : Names) → from a ≡ true → is_under a p ≡ false → path_cmp a y ≡ Less → inside y ≡ false
  not_later a y fa ua less =
      elim (from y) as (λ f. from y ≡ f → inside y ≡ false) [
        | true ↦ λ fy. elim (is_under y p) as (λ u. is_under y p ≡ u → inside y ≡ false) [
          | true ↦ λ uy. let e : true ≡ false = sym (under_between p a y (above a fa) less uy) ∙ ua in absurd (cc)
          | false ↦ λ uy. sym (within y fy) ∙ uy
        ] refl
        | false ↦ λ fy. before y fy
      ] refl

  module _ {X : Type 0} where
    none_later : (a : Names) (es : List (Names × X)) → from a ≡ true → is_under a p ≡ false → AllByRecursion (λ y. path_cmp a y ≡ Less) (keys_of es) → filter (λ e. inside e.0) es ≡ []
    none_later a [] fa ua h = refl
    none_later a (e ∷ es) fa ua h =
        let rest = none_later a es fa ua h.1 in
        ap (λ b. cond b (e ∷ filter (λ x. inside x.0) es) (filter (λ x. inside x.0) es)) (not_later a e.0 fa ua h.0) ∙ rest

    pub walk_is : (es : List (Names × X)) → IsStrictlySortedBy path_cmp (keys_of es) → front_under p (filter (λ e. from e.0) es) ≡ filter (λ e. inside e.0) es
    walk_is [] h = refl
    walk_is (e ∷ es) h =
        let met = filter (λ x. from x.0) es in
        let kept = filter (λ x. inside x.0) es in
        let rest = walk_is es (sorted_tail path_cmp e.0 (keys_of es) h) in
        elim (from e.0) as (λ f. from e.0 ≡ f → front_under p (cond f (e ∷ met) met) ≡ cond (inside e.0) (e ∷ kept) kept) [
          | true ↦ λ f. elim (is_under e.0 p) as (λ u. is_under e.0 p ≡ u → cond u (e ∷ front_under p met) [] ≡ cond (inside e.0) (e ∷ kept) kept) [
            | true ↦ λ u. ap (λ l. e ∷ l) rest ∙ ap (λ b. cond b (e ∷ kept) kept) (sym (sym (within e.0 f) ∙ u))
            | false ↦ λ u. sym (none_later e.0 es f u (sorted_head path_cmp e.0 (keys_of es) h)) ∙ ap (λ b. cond b (e ∷ kept) kept) (sym (sym (within e.0 f) ∙ u))
          ] refl
          | false ↦ λ f. rest ∙ ap (λ b. cond b (e ∷ kept) kept) (sym (before e.0 f))
        ] refl

pub and_with : (a b : Bool) → a ≡ true → b ≡ (a && b)
and_with true b h = refl
and_with false b h = absurd (cc)

pub and_without : (a b : Bool) → a ≡ false → (a && b) ≡ false
and_without true b h = absurd (cc)
and_without false b h = refl

included_le : (r : Ordering) → (is_le r && true) ≡ true → is_le r ≡ true
included_le Less h = refl
included_le Equal h = refl
included_le Greater h = absurd (cc)

excluded_le : (r : Ordering) → (is_lt r && true) ≡ true → is_le r ≡ true
excluded_le Less h = refl
excluded_le Equal h = absurd (cc)
excluded_le Greater h = absurd (cc)

-- from a start at the path on, nothing is before the path
pub start_above : (start : Bound Names) (p k : Names) → StartsAt start p → range_contains path_cmp start Unbounded k ≡ true → is_le (path_cmp p k) ≡ true
start_above (Included a) p k s h = included_le (path_cmp p k) (ap (λ q. is_le (path_cmp q k) && true) (sym s) ∙ h)
start_above (Excluded a) p k s h = excluded_le (path_cmp p k) (ap (λ q. is_lt (path_cmp q k) && true) (sym s) ∙ h)
start_above Unbounded p k s h = absurd s

-- what a walk from there on meets
pub walk_meets : {X : Type 0} (start : Bound Names) (p : Names) → StartsAt start p → (es : List (Names × X)) → IsStrictlySortedBy path_cmp (keys_of es)
    → front_under p (filter (λ e. range_contains path_cmp start Unbounded e.0) es) ≡ filter (λ e. is_met start p e.0) es
walk_meets start p s =
    walk_is p (range_contains path_cmp start Unbounded) (is_met start p)
    (λ k f. and_with (range_contains path_cmp start Unbounded k) (is_under k p) f)
    (λ k f. and_without (range_contains path_cmp start Unbounded k) (is_under k p) f)
    (λ k f. start_above start p k s f)

and_true : (a : Bool) → (a && true) ≡ a
and_true true = refl
and_true false = refl

over : (a b : Bool) → (b ≡ true → a ≡ true) → ((a && true) && b) ≡ b
over true b h = refl
over false true h = let e = h refl in absurd (cc)
over false false h = refl

-- from the path on, all under it is met
pub met_under : (p k : Names) → is_met (Included p) p k ≡ is_under k p
met_under p k = over (is_le (path_cmp p k)) (is_under k p) (under_le k p)

-- from behind the path on, all below it
pub met_below : (p k : Names) → is_met (Excluded p) p k ≡ is_below k p
met_below p k = ap (λ b. b && is_under k p) (and_true (is_lt (path_cmp p k))) ∙ sym (below_is k p)
