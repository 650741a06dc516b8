-- Laws of bytes that others are written over, and of what a crash may leave of them.
use Rattle.std.proofs.Common.{◌≡◌, ℕ, zero, suc, ◌+◌, ◌-◌, ◌<◌, ◌≤◌, min, max, List, [], ◌∷◌, ◌++◌, length, take, drop, replicate, refl, sym, ap, ◌∙◌, append_assoc, arith}
use Rattle.std.proofs.lemmas.List.{length-append, length-take, length-drop, length-replicate, take_at, take_min, drop-drop}
use Rattle.std.proofs.Math.Seq.{drop-append-add}
use Rattle.disk_model.specs.Content.{TornWrite, TornCut, written_over}

pub take-append : (n : ℕ) (xs ys : List ℕ) → take n (xs ++ ys) ≡ take n xs ++ take (n - length xs) ys
take-append zero xs ys = let none : zero - length xs ≡ zero = omega arith in ap (λ k. take k ys) (sym none)
take-append (suc n) [] ys = let all : suc n - zero ≡ suc n = omega arith in ap (λ k. take k ys) (sym all)
take-append (suc n) (x ∷ xs) ys =
    let less : suc n - suc (length xs) ≡ n - length xs = omega arith in
    ap (λ l. x ∷ l) (take-append n xs ys ∙ ap (λ k. take n xs ++ take k ys) (sym less))

pub drop-append : (n : ℕ) (xs ys : List ℕ) → drop n (xs ++ ys) ≡ drop n xs ++ drop (n - length xs) ys
drop-append zero xs ys = let none : zero - length xs ≡ zero = omega arith in ap (λ k. xs ++ drop k ys) (sym none)
drop-append (suc n) [] ys = let all : suc n - zero ≡ suc n = omega arith in ap (λ k. drop k ys) (sym all)
drop-append (suc n) (x ∷ xs) ys =
    let less : suc n - suc (length xs) ≡ n - length xs = omega arith in
    drop-append n xs ys ∙ ap (λ k. drop n xs ++ drop k ys) (sym less)

-- the part up to the end of what is written
front : List ℕ → ℕ → List ℕ → List ℕ
front old place bytes = take place old ++ replicate (place - length old) 0 ++ bytes

length-front : (old : List ℕ) (place : ℕ) (bytes : List ℕ) → length (front old place bytes) ≡ place + length bytes
unfolding front
length-front old place bytes =
    omega (
      arith,
      length-append (take place old ++ replicate (place - length old) 0) bytes,
      length-append (take place old) (replicate (place - length old) 0),
      length-take place old,
      length-replicate {A = ℕ} (place - length old) 0,
    )

-- some bytes that are written stand behind that part
pub written_some : (old : List ℕ) (place : ℕ) (bytes : List ℕ) → 0 < length bytes
    → written_over old place bytes ≡ take place old ++ replicate (place - length old) 0 ++ bytes ++ drop (place + length bytes) old
written_some old place [] some = absurd (omega arith)
written_some old place (b ∷ bytes) some = refl

pub length-written_over : (old : List ℕ) (place : ℕ) (bytes : List ℕ) → 0 < length bytes → length (written_over old place bytes) ≡ max (length old) (place + length bytes)
unfolding front
length-written_over old place bytes some =
    let is = written_some old place bytes some in
    omega (arith, ap length is, length-append (front old place bytes) (drop (place + length bytes) old), length-front old place bytes, length-drop (place + length bytes) old)

-- what was written is one of the things that a crash may leave of it, also where only a part of it was written
pub written_tears : (old : List ℕ) (place count : ℕ) (bytes : List ℕ) → length bytes ≤ count → TornWrite (min place (length old)) (place + count) old (written_over old place bytes)
unfolding front
written_tears old place count [] within = record { before = refl; behind = refl; no_shorter = omega arith; no_longer = omega arith }
written_tears old place count (b ∷ bytes) within =
    let written = b ∷ bytes in
    let rest = drop (place + length written) old in
    let some : 0 < length written = omega arith in
    let long = length-written_over old place written some in
    let split : front old place written ++ rest ≡ take place old ++ (replicate (place - length old) 0 ++ (written ++ rest)) =
    append_assoc (take place old ++ replicate (place - length old) 0) written rest ∙ append_assoc (take place old) (replicate (place - length old) 0) (written ++ rest) in
    let more = count - length written in
    let reach : place + count ≡ length (front old place written) + more = omega (arith, length-front old place written) in
    record {
      before = ap (take (min place (length old))) split
          ∙ take_at (take place old) (replicate (place - length old) 0 ++ (written ++ rest)) (min place (length old)) (length-take place old)
          ∙ sym (take_min place old);
      behind = ap (λ k. drop k (front old place written ++ rest)) reach ∙ drop-append-add (front old place written) rest more
          ∙ drop-drop more (place + length written) old ∙ ap (λ k. drop k old) (let e : place + length written + more ≡ place + count = omega arith in e);
      no_shorter = omega (arith, long);
      no_longer = omega (arith, long);
    }

-- the same of a cut
pub cut_tears : (n : ℕ) (old : List ℕ) → TornCut n old (take n old)
cut_tears n old = record { front = ap (λ k. take k old) (length-take n old) ∙ take_min n old; no_shorter = omega (arith, length-take n old) }
