-- The first course that isn't over: what it asks is asked, and its answer is taken there.
use Rattle.std.proofs.Common.{◌≡◌, ℕ, zero, suc, ◌+◌, ◌<◌, ◌≤◌, Bool, true, false, List, [], ◌∷◌, ◌++◌, map, take, drop, set, get_or, length, Option, Some, None, refl, sym, ap, ◌∙◌, arith}
use Rattle.std.specs.Prelude.{if◌then◌else◌}
use Rattle.std.specs.List.{slice_get, slice_set}
use Rattle.std.specs.Option.{option_map}
use Rattle.finite_maps.proofs.Constructors.{none_is_not_some, some_is_not_none, some_same}
use Rattle.roots_api.specs.declared.answer.Answer.{Answer}
use Rattle.roots_api.specs.declared.op.Op.{Op}
use Rattle.transition_plan.specs.Courses.{Course, next_op, taken}
use Rattle.cycle_core.specs.Changing.{IsOverTo, answered, asked, asked_by, is_over, over}

zero_plus : (n : ℕ) → 0 + n ≡ n
zero_plus n = omega arith

asked_front : (courses : List Course) (c : Course) → slice_get courses (over courses) ≡ Some c → asked courses ≡ asked_by c
asked_front [] c h = absurd (none_is_not_some c h)
asked_front (x ∷ xs) c h = go (asked_front xs c) (is_over x) h
  where
    go : (slice_get xs (over xs) ≡ Some c → asked xs ≡ asked_by c) → (b : Bool) → slice_get (x ∷ xs) (if b then suc (over xs) else 0) ≡ Some c
        → (if b then asked xs else asked_by x) ≡ asked_by c
    go rest true h = rest h
    go rest false h = ap asked_by (some_same x c h)

-- what the course at the front asks is asked
pub next_some : (courses : List Course) (at : ℕ) (c : Course) (op : Op) → at ≡ over courses → slice_get courses at ≡ Some c → next_op c ≡ Some op
    → Some (c.side, op) ≡ asked courses
next_some courses at c op e h asks = sym (asked_front courses c (ap (slice_get courses) (sym e) ∙ h) ∙ ap (option_map (λ o. (c.side, o))) asks)

-- nor if that course asks nothing
pub next_over : (courses : List Course) (at : ℕ) (c : Course) → at ≡ over courses → slice_get courses at ≡ Some c → next_op c ≡ None → None ≡ asked courses
next_over courses at c e h asks = sym (asked_front courses c (ap (slice_get courses) (sym e) ∙ h) ∙ ap (option_map (λ o. (c.side, o))) asks)

asked_none : (courses : List Course) → slice_get courses (over courses) ≡ None → asked courses ≡ None
asked_none [] h = refl
asked_none (x ∷ xs) h = go (asked_none xs) (is_over x) h
  where
    go : (slice_get xs (over xs) ≡ None → asked xs ≡ None) → (b : Bool) → slice_get (x ∷ xs) (if b then suc (over xs) else 0) ≡ None
        → (if b then asked xs else asked_by x) ≡ None
    go rest true h = rest h
    go rest false h = absurd (some_is_not_none x h)

-- nothing is asked if all are over
pub next_none : (courses : List Course) (at : ℕ) → at ≡ over courses → slice_get courses at ≡ None → None ≡ asked courses
next_none courses at e h = sym (asked_none courses (ap (slice_get courses) (sym e) ∙ h))

answered_front : (answer : Option (Answer (List ℕ))) (courses : List Course) (c : Course) → slice_get courses (over courses) ≡ Some c
    → answered courses answer ≡ slice_set courses (over courses) (taken c answer)
answered_front answer [] c h = absurd (none_is_not_some c h)
answered_front answer (x ∷ xs) c h = go (answered_front answer xs c) (is_over x) h
  where
    go : (slice_get xs (over xs) ≡ Some c → answered xs answer ≡ slice_set xs (over xs) (taken c answer)) → (b : Bool)
        → slice_get (x ∷ xs) (if b then suc (over xs) else 0) ≡ Some c
        → (if b then x ∷ answered xs answer else taken x answer ∷ xs) ≡ slice_set (x ∷ xs) (if b then suc (over xs) else 0) (taken c answer)
    go rest true h = ap (λ ys. x ∷ ys) (rest h)
    go rest false h = ap (λ y. taken y answer ∷ xs) (some_same x c h)

answered_none : (answer : Option (Answer (List ℕ))) (courses : List Course) → slice_get courses (over courses) ≡ None → answered courses answer ≡ courses
answered_none answer [] h = refl
answered_none answer (x ∷ xs) h = go (answered_none answer xs) (is_over x) h
  where
    go : (slice_get xs (over xs) ≡ None → answered xs answer ≡ xs) → (b : Bool) → slice_get (x ∷ xs) (if b then suc (over xs) else 0) ≡ None
        → (if b then x ∷ answered xs answer else taken x answer ∷ xs) ≡ x ∷ xs
    go rest true h = ap (λ ys. x ∷ ys) (rest h)
    go rest false h = absurd (some_is_not_none x h)

suc_plus : (n a b : ℕ) → n ≡ a + b → suc n ≡ suc a + b
suc_plus n a b e = omega arith

over_set : (courses : List Course) (d : Course) → over (slice_set courses (over courses) d) ≡ over courses + over (drop (over courses) (slice_set courses (over courses) d))
over_set [] d = refl
over_set (x ∷ xs) d = go (over_set xs d) (is_over x) refl
  where
    go : over (slice_set xs (over xs) d) ≡ over xs + over (drop (over xs) (slice_set xs (over xs) d)) → (b : Bool) → is_over x ≡ b
        → over (slice_set (x ∷ xs) (if b then suc (over xs) else 0) d)
        ≡ (if b then suc (over xs) else 0) + over (drop (if b then suc (over xs) else 0) (slice_set (x ∷ xs) (if b then suc (over xs) else 0) d))
    go rest true e = ap (λ (b : Bool). if b then suc (over (slice_set xs (over xs) d)) else 0) e ∙ suc_plus _ _ _ rest
    go rest false e = sym (zero_plus (over (d ∷ xs)))

-- answering the first course that isn't over, or none where all are
pub answered_is : (answer : Option (Answer (List ℕ))) (courses : List Course) (at : ℕ) (c : Course) → at ≡ over courses → slice_get courses at ≡ Some c
    → slice_set courses at (taken c answer) ≡ answered courses answer
answered_is answer courses at c e h =
    ap (λ k. slice_set courses k (taken c answer)) e ∙ sym (answered_front answer courses c (ap (slice_get courses) (sym e) ∙ h))

pub answered_none_is : (answer : Option (Answer (List ℕ))) (courses : List Course) (at : ℕ) → at ≡ over courses → slice_get courses at ≡ None → courses ≡ answered courses answer
answered_none_is answer courses at e h = sym (answered_none answer courses (ap (slice_get courses) (sym e) ∙ h))

over_within : (courses : List Course) → over courses ≤ length courses
over_within [] = omega arith
over_within (x ∷ xs) = go (is_over x) (over_within xs)
  where
    go : (b : Bool) → over xs ≤ length xs → (if b then suc (over xs) else 0) ≤ suc (length xs)
    go true h = omega arith
    go false h = omega arith

length_set : (courses : List Course) (at : ℕ) (d : Course) → length (slice_set courses at d) ≡ length courses
length_set [] at d = refl
length_set (x ∷ xs) zero d = refl
length_set (x ∷ xs) (suc at) d = ap suc (length_set xs at d)

-- the courses before it stay over
pub still_over : (courses : List Course) (at : ℕ) (d : Course) → at ≡ over courses → IsOverTo at (slice_set courses at d)
still_over courses at d e = (
  omega (arith, e, over_within courses, length_set courses at d),
  ap (λ k. over (slice_set courses k d)) e ∙ over_set courses d ∙ ap (λ k. k + over (drop k (slice_set courses k d))) (sym e),
)

over_all : (courses : List Course) → over courses ≡ over courses + over (drop (over courses) courses)
over_all [] = refl
over_all (x ∷ xs) = go (over_all xs) (is_over x) refl
  where
    go : over xs ≡ over xs + over (drop (over xs) xs) → (b : Bool) → is_over x ≡ b
        → (if b then suc (over xs) else 0) ≡ (if b then suc (over xs) else 0) + over (drop (if b then suc (over xs) else 0) (x ∷ xs))
    go rest true e = suc_plus _ _ _ rest
    go rest false e = ap (λ (b : Bool). if b then suc (over xs) else 0) (sym e) ∙ sym (zero_plus (over (x ∷ xs)))

pub over_still : (courses : List Course) (at : ℕ) → at ≡ over courses → IsOverTo at courses
over_still courses at e =
    (omega (arith, e, over_within courses), over_all courses ∙ ap (λ k. k + over (drop k courses)) (sym e))

module _ {A : Type 0} (f : A → A) where
  set_front : (xs : List A) (i : ℕ) (d : A) → i < length xs
      → set (map f (take i xs) ++ drop i xs) i (f (get_or (map f (take i xs) ++ drop i xs) i d)) ≡ map f (take (suc i) xs) ++ drop (suc i) xs
  set_front [] i d h = absurd (omega arith)
  set_front (x ∷ xs) zero d h = refl
  set_front (x ∷ xs) (suc i) d h = ap (λ ys. f x ∷ ys) (set_front xs i d (omega arith))

  -- the entry at i is turned too
  pub set_next : (ys xs : List A) (i : ℕ) (d y : A) → ys ≡ map f (take i xs) ++ drop i xs → i < length xs → y ≡ f (get_or ys i d)
      → set ys i y ≡ map f (take (i + 1) xs) ++ drop (i + 1) xs
  set_next ys xs i d y e h is =
      ap (λ z. set ys i z) is ∙ ap (λ zs. set zs i (f (get_or zs i d))) e ∙ set_front xs i d h
      ∙ ap (λ k. map f (take k xs) ++ drop k xs) (next_is i)
    where
      next_is : (n : ℕ) → suc n ≡ n + 1
      next_is n = omega arith
