-- How often a test holds in a list, where one place of the list changes.
use Rattle.std.proofs.Common.{◌≡◌, ◌≢◌, ℕ, zero, suc, ◌+◌, ◌≤◌, Bool, true, cond, List, [], ◌∷◌, ◌++◌, set, sym, ap, arith}
use Rattle.std.specs.List.{count_by}
use Rattle.std.proofs.lemmas.List.Sums.{sum_by-cons, sum_by_push}
use mathlib.Core.Option.{some, some-injective, some-ne-none}
use lib.ListN.{get_elem?}

abbrev pub one : Bool → ℕ
one b = cond b 1 0

module _ {X : Type 0} (p : X → Bool) where
  pub count-cons : (x : X) (xs : List X) → count_by p (x ∷ xs) ≡ one (p x) + count_by p xs
  count-cons x xs = sum_by-cons (λ y. one (p y)) x xs

  pub count_push : (xs : List X) (y : X) → count_by p (xs ++ y ∷ []) ≡ count_by p xs + one (p y)
  count_push xs y = sum_by_push (λ z. one (p z)) xs y

  pub count-set : (xs : List X) (i : ℕ) (x y : X) → get_elem? xs i ≡ some x → count_by p (set xs i y) + one (p x) ≡ count_by p xs + one (p y)
  count-set [] i x y at = absurd (some-ne-none x (sym at))
  count-set (z ∷ zs) zero x y at = omega (arith, count-cons z zs, count-cons y zs, ap (λ (u : X). one (p u)) (some-injective z x at))
  count-set (z ∷ zs) (suc i) x y at = omega (arith, count-cons z zs, count-cons z (set zs i y), count-set zs i x y at)

  pub count_one : (xs : List X) (i : ℕ) (x : X) → get_elem? xs i ≡ some x → p x ≡ true → 1 ≤ count_by p xs
  count_one [] i x at is = absurd (some-ne-none x (sym at))
  count_one (z ∷ zs) zero x at is = omega (arith, count-cons z zs, ap (λ (u : X). one (p u)) (some-injective z x at), ap one is)
  count_one (z ∷ zs) (suc i) x at is = omega (arith, count-cons z zs, count_one zs i x at is)

  pub count_two : (xs : List X) (i j : ℕ) (x y : X) → i ≢ j → get_elem? xs i ≡ some x → get_elem? xs j ≡ some y → p x ≡ true → p y ≡ true → 2 ≤ count_by p xs
  count_two [] i j x y apart at at' is is' = absurd (some-ne-none x (sym at))
  count_two (z ∷ zs) zero zero x y apart at at' is is' = absurd (apart (λ k. zero))
  count_two (z ∷ zs) zero (suc j) x y apart at at' is is' = omega (arith, count-cons z zs, ap (λ (u : X). one (p u)) (some-injective z x at), ap one is, count_one zs j y at' is')
  count_two (z ∷ zs) (suc i) zero x y apart at at' is is' = omega (arith, count-cons z zs, ap (λ (u : X). one (p u)) (some-injective z y at'), ap one is', count_one zs i x at is)
  count_two (z ∷ zs) (suc i) (suc j) x y apart at at' is is' = omega (arith, count-cons z zs, count_two zs i j x y (λ e. apart (ap suc e)) at at' is is')
