-- A list, at the element of a number.
use Rattle.std.proofs.Common.{◌≡◌, ℕ, zero, suc, ◌+◌, ◌<◌, ◌≤◌, List, [], ◌∷◌, ◌++◌, length, get_or, take, drop, map, refl, sym, ap, arith, add-one}

module _ {X Y : Type 0} (f : X → Y) where
  -- what is before it, itself and what is behind it
  pub map_around : (xs : List X) (i : ℕ) (x : X) → i < length xs → x ≡ get_or xs i x → map f xs ≡ map f (take i xs) ++ f x ∷ map f (drop (i + 1) xs)
  map_around [] i x less is = absurd (omega arith)
  map_around (y ∷ xs) zero x less is = ap (λ (z : X). f z ∷ map f xs) (sym is)
  map_around (y ∷ xs) (suc i) x less is = rw add-one (ap (λ (l : List Y). f y ∷ l) (rw add-one at (map_around xs i x (omega arith) is)))

  -- with it there is one element more in front
  pub map_one_more : (xs : List X) (i : ℕ) (x : X) → i < length xs → x ≡ get_or xs i x → map f (take (i + 1) xs) ≡ map f (take i xs) ++ f x ∷ []
  map_one_more [] i x less is = absurd (omega arith)
  map_one_more (y ∷ xs) zero x less is = ap (λ (z : X). f z ∷ []) (sym is)
  map_one_more (y ∷ xs) (suc i) x less is = rw add-one (ap (λ (l : List Y). f y ∷ l) (rw add-one at (map_one_more xs i x (omega arith) is)))

  pub length_in_front : (xs : List X) (i : ℕ) → i ≤ length xs → length (map f (take i xs)) ≡ i
  length_in_front [] zero le = refl
  length_in_front [] (suc i) le = absurd (omega arith)
  length_in_front (y ∷ xs) zero le = refl
  length_in_front (y ∷ xs) (suc i) le = let rest = length_in_front xs i (omega arith) in omega (arith, rest)
