-- Lists: one of them at a place, and one more at the end.
use Rattle.std.proofs.Common.{◌≡◌, ℕ, zero, suc, ◌+◌, ◌-◌, Bool, true, false, ◌||◌, List, [], ◌∷◌, ◌++◌, length, length-append, arith, Option, Some, None, refl, sym, ap, subst, ◌∙◌}
use Rattle.std.specs.List.{AllByRecursion, list_any, slice_get}

or_left : (a b : Bool) → a ≡ true → (a || b) ≡ true
or_left true b h = refl
or_left false b h = absurd (cc)

or_right : (a b : Bool) → b ≡ true → (a || b) ≡ true
or_right true b h = refl
or_right false b h = h

module _ {X : Type 0} where
  same_one : (y x : X) → Some y ≡ Some x → y ≡ x
  same_one y x e = cc

  -- one at a place is among them
  pub among : (test : X → Bool) (xs : List X) (i : ℕ) (x : X) → slice_get xs i ≡ Some x → test x ≡ true → list_any test xs ≡ true
  among test [] i x e h = absurd (cc)
  among test (y ∷ xs) zero x e h = or_left (test y) (list_any test xs) (ap test (same_one y x e) ∙ h)
  among test (y ∷ xs) (suc i) x e h = or_right (test y) (list_any test xs) (among test xs i x e h)

  -- what holds of all holds of it
  pub at_place : (P : X → Type 0) (xs : List X) (i : ℕ) (x : X) → AllByRecursion P xs → slice_get xs i ≡ Some x → P x
  at_place P [] i x all e = absurd (cc)
  at_place P (y ∷ xs) zero x all e = subst P (same_one y x e) all.0
  at_place P (y ∷ xs) (suc i) x all e = at_place P xs i x all.1 e

  -- one more at the end leaves the others at their places
  pub stays_at : (xs : List X) (x : X) (i : ℕ) (y : X) → slice_get xs i ≡ Some y → slice_get (xs ++ x ∷ []) i ≡ Some y
  stays_at [] x i y e = absurd (cc)
  stays_at (z ∷ xs) x zero y e = e
  stays_at (z ∷ xs) x (suc i) y e = stays_at xs x i y e

  -- and stands behind them
  pub stands_last : (xs : List X) (x : X) → slice_get (xs ++ x ∷ []) (length xs) ≡ Some x
  stands_last [] x = refl
  stands_last (z ∷ xs) x = stands_last xs x

  pub is_last : (xs : List X) (x : X) → slice_get (xs ++ x ∷ []) (length (xs ++ x ∷ []) - 1) ≡ Some x
  is_last xs x =
      let longer : length (xs ++ x ∷ []) ≡ length xs + 1 = length-append xs (x ∷ []) in
      let e : length (xs ++ x ∷ []) - 1 ≡ length xs = omega (arith, longer) in
      ap (slice_get (xs ++ x ∷ [])) e ∙ stands_last xs x

  pub all_more : (P : X → Type 0) (xs : List X) (x : X) → AllByRecursion P xs → P x → AllByRecursion P (xs ++ x ∷ [])
  all_more P [] x all here = (here, tt)
  all_more P (y ∷ xs) x all here = (all.0, all_more P xs x all.1 here)

  pub all_weaker : (P Q : X → Type 0) → ((x : X) → P x → Q x) → (xs : List X) → AllByRecursion P xs → AllByRecursion Q xs
  all_weaker P Q f [] all = tt
  all_weaker P Q f (x ∷ xs) all = (f x all.0, all_weaker P Q f xs all.1)
