-- Cycles in turn.
use Rattle.std.proofs.Common.{◌≡◌, ◌⊎◌, inl, inr, ◌<◌, Bool, true, false, ◌&&◌, ◌==◌, List, [], ◌∷◌, ◌++◌, refl, sym, subst, ◌∙◌, nat_le, nat_lt, arith}
use Rattle.std.specs.List.{AllByRecursion}
use Rattle.std.proofs.lemmas.Bool.{and_parts, and_from, or_cases, or_left, or_right, ltb-true, lt-ltb, eqb-true, eq-eqb, false_from_ne_true}
use Rattle.cycle_law.specs.Conserving.{are_in_turn}
use Rattle.cycle_law.specs.Cycles.{Cycle, is_earlier}
use Rattle.cycle_law.proofs.Lists.{all_weaker}

abbrev pub Earlier : Cycle → Cycle → Type 0
Earlier c d = (c.run < d.run) ⊎ ((c.run ≡ d.run) × (c.number < d.number))

abbrev pub is_before_cycle : Cycle → Cycle → Bool
is_before_cycle c d = is_earlier c.run c.number d.run d.number

pub earlier_is : (c d : Cycle) → is_before_cycle c d ≡ true → Earlier c d
earlier_is c d h = by (or_cases (nat_lt c.run d.run) ((c.run == d.run) && nat_lt c.number d.number) h)
  where
    by : (nat_lt c.run d.run ≡ true) ⊎ (((c.run == d.run) && nat_lt c.number d.number) ≡ true) → Earlier c d
    by (inl less) = inl (ltb-true c.run d.run less)
    by (inr same) = let both = and_parts (c.run == d.run) (nat_lt c.number d.number) same in inr (eqb-true c.run d.run both.0, ltb-true c.number d.number both.1)

pub is_earlier_from : (c d : Cycle) → Earlier c d → is_before_cycle c d ≡ true
is_earlier_from c d (inl less) = or_left (nat_lt c.run d.run) ((c.run == d.run) && nat_lt c.number d.number) (lt-ltb c.run d.run less)
is_earlier_from c d (inr same) =
    or_right (nat_lt c.run d.run) ((c.run == d.run) && nat_lt c.number d.number) (and_from (c.run == d.run) (nat_lt c.number d.number) (eq-eqb c.run d.run same.0) (lt-ltb c.number d.number same.1))

earlier_through : (b c d : Cycle) → Earlier b c → Earlier c d → Earlier b d
earlier_through b c d (inl x) (inl y) = inl (omega arith)
earlier_through b c d (inl x) (inr y) = let same : c.run ≡ d.run = y.0 in inl (omega arith)
earlier_through b c d (inr x) (inl y) = let same : b.run ≡ c.run = x.0 in inl (omega arith)
earlier_through b c d (inr x) (inr y) = let less : b.number < c.number = x.1 in let more : c.number < d.number = y.1 in inr (x.0 ∙ y.0, omega arith)

-- no cycle is earlier than itself, or than one that is earlier than it
pub never_before : (c d : Cycle) → (Earlier d c ⊎ (c ≡ d)) → is_before_cycle c d ≡ true → ⊥
never_before c d way h = by (earlier_is c d h) way
  where
    itself : Earlier c c → ⊥
    itself (inl less) = absurd (omega arith)
    itself (inr same) = let less : c.number < c.number = same.1 in absurd (omega arith)

    by : Earlier c d → (Earlier d c ⊎ (c ≡ d)) → ⊥
    by first (inl back) = itself (earlier_through c d c first back)
    by first (inr same) = itself (subst (Earlier c) (sym same) first)

-- of two cycles of which one is earlier the numbers differ
pub numbers_differ : (c d : Cycle) → (Earlier c d ⊎ Earlier d c) → ((c.run == d.run) && (c.number == d.number)) ≡ false
numbers_differ c d way = false_from_ne_true ((c.run == d.run) && (c.number == d.number)) (λ h.
    let both = and_parts (c.run == d.run) (c.number == d.number) h in
    by way (eqb-true c.run d.run both.0) (eqb-true c.number d.number both.1))
  where
    by : (Earlier c d ⊎ Earlier d c) → c.run ≡ d.run → c.number ≡ d.number → ⊥
    by (inl (inl less)) run number = absurd (omega arith)
    by (inl (inr same)) run number = let less : c.number < d.number = same.1 in absurd (omega arith)
    by (inr (inl less)) run number = absurd (omega arith)
    by (inr (inr same)) run number = let less : d.number < c.number = same.1 in absurd (omega arith)

-- behind a cycle stand later ones alone
pub later_all : (c : Cycle) (after : List Cycle) → are_in_turn (c ∷ after) ≡ true → AllByRecursion (Earlier c) after
later_all c [] h = tt
later_all c (d ∷ after) h =
    let one = and_parts (is_before_cycle c d) _ h in
    let two = and_parts (nat_le c.base d.base) (are_in_turn (d ∷ after)) one.1 in
    let first : Earlier c d = earlier_is c d one.0 in
    (first, all_weaker (Earlier d) (Earlier c) (λ e later. earlier_through c d e first later) after (later_all d after two.1))

tail_turn : (c : Cycle) (cycles : List Cycle) → are_in_turn (c ∷ cycles) ≡ true → are_in_turn cycles ≡ true
tail_turn c [] h = refl
tail_turn c (d ∷ cycles) h = (and_parts (nat_le c.base d.base) (are_in_turn (d ∷ cycles)) (and_parts (is_before_cycle c d) _ h).1).1

pub behind_turn : (before : List Cycle) (c : Cycle) (after : List Cycle) → are_in_turn (before ++ c ∷ after) ≡ true → are_in_turn (c ∷ after) ≡ true
behind_turn [] c after h = h
behind_turn (b ∷ before) c after h = behind_turn before c after (tail_turn b (before ++ c ∷ after) h)

front_holds : {X : Type 0} (P : X → Type 0) (xs : List X) (y : X) (ys : List X) → AllByRecursion P (xs ++ y ∷ ys) → P y
front_holds P [] y ys all = all.0
front_holds P (x ∷ xs) y ys all = front_holds P xs y ys all.1

-- before a cycle stand earlier ones alone
pub earlier_all : (before : List Cycle) (c : Cycle) (after : List Cycle) → are_in_turn (before ++ c ∷ after) ≡ true → AllByRecursion (λ b. Earlier b c) before
earlier_all [] c after h = tt
earlier_all (b ∷ before) c after h =
    (front_holds (Earlier b) before c after (later_all b (before ++ c ∷ after) h), earlier_all before c after (tail_turn b (before ++ c ∷ after) h))
