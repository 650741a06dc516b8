-- What was written of a piece so far.
use Rattle.std.proofs.Common.{◌≡◌, ℕ, ◌-◌, ◌<◌, List, ◌++◌, length, take, drop, Option, Result, Ok, Err, OnErr, refl, ap, sym, ◌∙◌, subst, append_assoc, arith}
use Rattle.std.proofs.lemmas.List.{length-append, take_at, take-append-drop, take_rest}
use Rattle.std.specs.Io.KnownBytes.{Appends, Keeps}
use Rattle.std.proofs.KnownBytes.{Appends-trans, Appends-kept}

-- a fact that holds holds at an error too
pub OnErr-from : {T E P : Type 0} (r : Result T E) → P → OnErr r P
OnErr-from (Ok x) p = tt
OnErr-from (Err e) p = p

-- where a write failed, what was written is a part of the piece, and not all
pub part_sent : (a b c : Option (List ℕ)) (front rest bytes : List ℕ) → front ++ rest ≡ bytes → Appends a b front → Keeps b c → 0 < length rest
    → (n : ℕ) × (n < length bytes) × Appends a c (take n bytes)
part_sent a b c front rest bytes e p k some =
    let is : take (length front) bytes ≡ front = ap (take (length front)) (sym e) ∙ take_at front rest (length front) refl in
    (length front, omega (arith, length-append front rest, ap length e), subst (Appends a c) (sym is) (Appends-kept a b c front p k))

-- where a write took n bytes, they are behind those that were written before
pub more_sent : (a b c : Option (List ℕ)) (front rest bytes : List ℕ) (n : ℕ) → front ++ rest ≡ bytes → Appends a b front → Appends b c (take n rest)
    → (more : List ℕ) × (more ++ take (length rest - n) (drop n rest) ≡ bytes) × Appends a c more
more_sent a b c front rest bytes n e p q = (
  front ++ take n rest,
  append_assoc front (take n rest) (take (length rest - n) (drop n rest)) ∙ ap (λ xs. front ++ (take n rest ++ xs)) (take_rest rest n) ∙ ap (λ xs. front ++ xs) (take-append-drop n rest) ∙ e,
  Appends-trans a b c front (take n rest) p q,
)
