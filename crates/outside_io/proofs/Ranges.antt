-- Parts of a list.
use Rattle.std.proofs.Common.{◌≡◌, ℕ, ◌+◌, ◌-◌, ◌≤◌, List, ◌++◌, length, take, drop, slice_range, ap, sym, ◌∙◌, arith}
use Rattle.std.proofs.lemmas.List.{length-take, drop-take, drop-drop, take-take, take-append-le}

-- a part is no longer than its bounds say
pub length-range : (xs : List ℕ) (i j : ℕ) → length (slice_range xs i j) ≤ j - i
length-range xs i j = omega (arith, length-take (j - i) (drop i xs))

-- a part that begins k further on, at `at`
pub range-drop : (xs : List ℕ) (i j k at : ℕ) → at ≡ i + k → k ≤ length (slice_range xs i j) → slice_range xs at j ≡ drop k (slice_range xs i j)
range-drop xs i j k at is h =
    let m = j - at in
    let e : j - i ≡ k + m = omega (arith, length-range xs i j) in
    ap (λ n. take m (drop n xs)) is ∙ sym (ap (λ n. drop k (take n (drop i xs))) e ∙ drop-take k m (drop i xs) ∙ ap (take m) (drop-drop k i xs))

-- the first n elements, where more than n were written over
pub range_written : (len : ℕ) (given rest : List ℕ) (n : ℕ) → n ≤ length given → n ≤ len → slice_range (take len (given ++ rest)) 0 n ≡ take n given
range_written len given rest n in_given in_len =
    let e : n - 0 ≡ n = omega arith in
    ap (λ k. take k (take len (given ++ rest))) e ∙ take-take n len (given ++ rest) in_len ∙ take-append-le n given rest in_given
