-- Two parts, one behind the other: which numbers of bytes they can have together.
use Rattle.std.proofs.Common.{◌≡◌, ℕ, ◌+◌, ◌-◌, ◌≤◌, Bool, true, false, ◌&&◌, ◌||◌, refl, arith, ◌⊎◌, inl, inr}
use Rattle.std.specs.Prelude.{nat_le, ◌==◌}
use Rattle.std.proofs.lemmas.Bool.{and_parts}
use Rattle.std.proofs.lemmas.Bool.Decides.{nat_tests, leb_tells}
use Rattle.agent_proto.specs.declared.sizes.Sizes.{Sizes}
use Rattle.agent_proto.specs.Sizes.{Has, meets}

-- a size of each
pub record Meet (s t : Sizes) (n : ℕ) : Type 0 where
  pub first : ℕ
  pub second : ℕ
  pub has_first : Has s first
  pub has_second : Has t second
  pub sum : first + second ≡ n

-- none of the sizes from the least to the greatest is missing
pub record IsRange (s : Sizes) : Type 0 where
  pub some : s.low ≤ s.high

-- what the test says, part by part
or_either : (a b : Bool) → (a || b) ≡ true → (a ≡ true) ⊎ (b ≡ true)
or_either true b e = inl refl
or_either false b e = inr e

le_of : (a b : ℕ) → nat_le a b ≡ true → a ≤ b
le_of a b e = grind (arith, nat_tests, e)

eq_of : (a b : ℕ) → (a == b) ≡ true → a ≡ b
eq_of a b e = grind (arith, nat_tests, e)

-- a size of each that makes this number, where the sizes of both go from least to greatest
between_both : (s t : Sizes) (n : ℕ) → IsRange s → IsRange t → s.low + t.low ≤ n → n ≤ s.high + t.high → Meet s t n
between_both s t n rs rt low high = elim (leb_tells n (s.high + t.low)) [
  | inl c ↦ record { first = n - t.low; second = t.low; has_first = inr (omega (arith, low), omega (arith, c.1, low)); has_second = inr (omega arith, rt.some); sum = omega (arith, low) }
  | inr c ↦ record { first = s.high; second = n - s.high; has_first = inr (rs.some, omega arith); has_second = inr (omega (arith, c.1), omega (arith, high, c.1)); sum = omega (arith, c.1) }
]

pub meet_of : (s t : Sizes) (n : ℕ) → IsRange s → IsRange t → meets s t n ≡ true → Meet s t n
meet_of s t n rs rt e = elim (or_either (s.one + t.one == n) _ e) [
  | inl p ↦ record { first = s.one; second = t.one; has_first = inl refl; has_second = inl refl; sum = eq_of (s.one + t.one) n p }
  | inr p ↦ elim (or_either (nat_le (s.one + t.low) n && nat_le n (s.one + t.high)) _ p) [
    | inl q ↦
        let h = and_parts (nat_le (s.one + t.low) n) (nat_le n (s.one + t.high)) q in
        let low = le_of (s.one + t.low) n h.0 in
        let high = le_of n (s.one + t.high) h.1 in
        record { first = s.one; second = n - s.one; has_first = inl refl; has_second = inr (omega (arith, low), omega (arith, low, high)); sum = omega (arith, low) }
    | inr q ↦ elim (or_either (nat_le (s.low + t.one) n && nat_le n (s.high + t.one)) _ q) [
      | inl r ↦
          let h = and_parts (nat_le (s.low + t.one) n) (nat_le n (s.high + t.one)) r in
          let low = le_of (s.low + t.one) n h.0 in
          let high = le_of n (s.high + t.one) h.1 in
          record { first = n - t.one; second = t.one; has_first = inr (omega (arith, low), omega (arith, low, high)); has_second = inl refl; sum = omega (arith, low) }
      | inr r ↦
          let h = and_parts (nat_le (s.low + t.low) n) (nat_le n (s.high + t.high)) r in
          between_both s t n rs rt (le_of (s.low + t.low) n h.0) (le_of n (s.high + t.high) h.1)
    ]
  ]
]

-- and no other number is met
le_is : (a b : ℕ) → a ≤ b → nat_le a b ≡ true
le_is a b h = grind (arith, nat_tests, h)

or_right : (a b : Bool) → b ≡ true → (a || b) ≡ true
or_right true b e = refl
or_right false b e = e

or_left : (a b : Bool) → a ≡ true → (a || b) ≡ true
or_left true b e = refl
or_left false b e = absurd cc

both_is : (a b : Bool) → a ≡ true → b ≡ true → (a && b) ≡ true
both_is a b p q = rw (p, q) refl

pub of_meet : (s t : Sizes) (n : ℕ) → Meet s t n → meets s t n ≡ true
of_meet s t n m = by_cases m.has_first m.has_second
  where
    sum_is : m.first + m.second ≡ n
    sum_is = m.sum

    by_cases : Has s m.first → Has t m.second → meets s t n ≡ true
    by_cases (inl a) (inl b) =
        let e : (s.one + t.one == n) ≡ true = let h : s.one + t.one ≡ n = omega (arith, a, b, sum_is) in grind (arith, nat_tests, h) in
        or_left (s.one + t.one == n) _ e
    by_cases (inl a) (inr b) =
        or_right (s.one + t.one == n) _ (or_left (nat_le (s.one + t.low) n && nat_le n (s.one + t.high)) _
        (both_is (nat_le (s.one + t.low) n) (nat_le n (s.one + t.high)) (le_is (s.one + t.low) n (omega (arith, a, b.0, sum_is))) (le_is n (s.one + t.high) (omega (arith, a, b.1, sum_is)))))
    by_cases (inr a) (inl b) =
        or_right (s.one + t.one == n) _ (or_right (nat_le (s.one + t.low) n && nat_le n (s.one + t.high)) _ (or_left (nat_le (s.low + t.one) n && nat_le n (s.high + t.one)) _
        (both_is (nat_le (s.low + t.one) n) (nat_le n (s.high + t.one)) (le_is (s.low + t.one) n (omega (arith, a.0, b, sum_is))) (le_is n (s.high + t.one) (omega (arith, a.1, b, sum_is))))))
    by_cases (inr a) (inr b) =
        or_right (s.one + t.one == n) _ (or_right (nat_le (s.one + t.low) n && nat_le n (s.one + t.high)) _ (or_right (nat_le (s.low + t.one) n && nat_le n (s.high + t.one)) _
        (both_is (nat_le (s.low + t.low) n) (nat_le n (s.high + t.high)) (le_is (s.low + t.low) n (omega (arith, a.0, b.0, sum_is))) (le_is n (s.high + t.high) (omega (arith, a.1, b.1, sum_is))))))
