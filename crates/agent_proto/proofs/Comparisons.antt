-- Comparisons of numbers that don't compute by themselves.
use Rattle.std.proofs.Common.{◌≡◌, ℕ, suc, true, false, ◌∙◌, sym, arith, inl, inr}
use Rattle.std.specs.Prelude.{nat_le, nat_lt, ◌==◌}
use Rattle.std.proofs.lemmas.Bool.Decides.{nat_tests, leb_tells}

pub le_suc : (a b : ℕ) → nat_le (suc a) (suc b) ≡ nat_le a b
le_suc a b = elim (leb_tells a b) [
  | inl p ↦ (let h = p.1 in let e : nat_le (suc a) (suc b) ≡ true = grind (arith, nat_tests, h) in e) ∙ sym p.0
  | inr p ↦ (let h = p.1 in let e : nat_le (suc a) (suc b) ≡ false = grind (arith, nat_tests, h) in e) ∙ sym p.0
]

pub le_none : (a : ℕ) → nat_le (suc a) 0 ≡ false
le_none a = grind (arith, nat_tests)

pub le_zero : (a : ℕ) → nat_le 0 a ≡ true
le_zero a = grind (arith, nat_tests)

pub suc_zero : (a : ℕ) → (suc a == 0) ≡ false
suc_zero a = grind (arith, nat_tests)

pub zero_lt : (a : ℕ) → nat_lt 0 (suc a) ≡ true
zero_lt a = grind (arith, nat_tests)
