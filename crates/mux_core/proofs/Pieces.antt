-- Bytes in pieces, and their first ones.
use Rattle.std.proofs.Common.{◌≡◌, ℕ, ◌+◌, ◌-◌, ◌<◌, ◌≤◌, List, [], ◌∷◌, ◌++◌, zero, suc, length, take, drop, get_or, min, ap, ◌∙◌, sym, refl, arith, append_assoc, append-nil, length-append, drop-cons}
use Rattle.std.proofs.lemmas.List.{length-take-le}
use Rattle.std.specs.List.{concat}

pub concat_more : (pieces : List (List ℕ)) (piece : List ℕ) → concat (pieces ++ piece ∷ []) ≡ concat pieces ++ piece
concat_more [] piece = append-nil piece
concat_more (p ∷ pieces) piece = ap (λ (xs : List ℕ). p ++ xs) (concat_more pieces piece) ∙ sym (append_assoc p (concat pieces) piece)

pub concat_both : (front back : List (List ℕ)) → concat (front ++ back) ≡ concat front ++ concat back
concat_both [] back = refl
concat_both (p ∷ front) back = ap (λ (xs : List ℕ). p ++ xs) (concat_both front back) ∙ sym (append_assoc p (concat front) (concat back))

take_none : (xs : List ℕ) → take 0 xs ≡ []
take_none [] = refl
take_none (x ∷ xs) = refl

pub take_nil : (n : ℕ) → take n (let xs : List ℕ = [] in xs) ≡ []
take_nil zero = refl
take_nil (suc n) = refl

pub take_both : (xs ys : List ℕ) (n : ℕ) → take n (xs ++ ys) ≡ take n xs ++ take (n - length xs) ys
take_both [] ys n = let e : n - 0 ≡ n = omega arith in rw (e, take_nil n)
take_both (x ∷ xs) ys zero = let e : 0 - suc (length xs) ≡ 0 = omega arith in rw e (sym (take_none ys))
take_both (x ∷ xs) ys (suc n) = let e : suc n - suc (length xs) ≡ n - length xs = omega arith in rw e (ap (λ (zs : List ℕ). x ∷ zs) (take_both xs ys n))

-- bytes that are cut to a size, with others behind them, and cut again
pub take_again : (xs ys : List ℕ) (n : ℕ) → take n (take n xs ++ ys) ≡ take n (xs ++ ys)
take_again [] ys zero = refl
take_again [] ys (suc n) = refl
take_again (x ∷ xs) ys zero = take_none ys
take_again (x ∷ xs) ys (suc n) = ap (λ (zs : List ℕ). x ∷ zs) (take_again xs ys n)

take_at_least : (p rest : List ℕ) (n : ℕ) → take n (take (min n (length p)) p ++ rest) ≡ take n (p ++ rest)
take_at_least [] rest n = ap (λ (xs : List ℕ). take n (xs ++ rest)) (take_nil (min n 0))
take_at_least (x ∷ p) rest zero = take_none (take (min 0 (suc (length p))) (x ∷ p) ++ rest)
take_at_least (x ∷ p) rest (suc n) =
    let e : min (suc n) (suc (length p)) ≡ suc (min n (length p)) = omega arith in
    ap (λ (m : ℕ). take (suc n) (take m (x ∷ p) ++ rest)) e ∙ ap (λ (zs : List ℕ). x ∷ zs) (take_at_least p rest n)

-- what is still wanted of a piece is all that a cut to the size lets through
pub take_next : (bytes p rest : List ℕ) (n : ℕ) → length bytes ≤ n → take n ((bytes ++ take (min (n - length bytes) (length p)) p) ++ rest) ≡ take n (bytes ++ (p ++ rest))
take_next bytes p rest n fits =
    let m = n - length bytes in
    ap (take n) (append_assoc bytes (take (min m (length p)) p) rest)
    ∙ take_both bytes (take (min m (length p)) p ++ rest) n
    ∙ ap (λ (zs : List ℕ). take n bytes ++ zs) (take_at_least p rest m)
    ∙ sym (take_both bytes (p ++ rest) n)

-- one more piece, as far as it is wanted
pub fill_more : (count index : ℕ) (pieces : List (List ℕ)) (bytes piece new all : List ℕ) → piece ≡ get_or pieces index piece → index < length pieces → length bytes ≤ count
    → new ≡ bytes ++ take (min (count - length bytes) (length piece)) piece → take count (bytes ++ concat (drop index pieces)) ≡ all
    → (length new ≤ count) × (take count (new ++ concat (drop (index + 1) pieces)) ≡ all)
fill_more count index pieces bytes piece new all at within fits is so_far =
    let m : ℕ = min (count - length bytes) (length piece) in
    let fits_in : m ≤ length piece = omega arith in
    let after : suc index ≡ index + 1 = omega arith in
    let next : drop index pieces ≡ piece ∷ drop (index + 1) pieces =
    drop-cons pieces index piece within ∙ ap (λ (p : List ℕ). p ∷ drop (suc index) pieces) (sym at) ∙ ap (λ (n : ℕ). piece ∷ drop n pieces) after in (
      omega (arith, ap length is, length-append bytes (take m piece), length-take-le m piece fits_in),
      ap (λ (xs : List ℕ). take count (xs ++ concat (drop (index + 1) pieces))) is
          ∙ take_next bytes piece (concat (drop (index + 1) pieces)) count fits
          ∙ ap (λ (ps : List (List ℕ)). take count (bytes ++ concat ps)) (sym next)
          ∙ so_far,
    )
