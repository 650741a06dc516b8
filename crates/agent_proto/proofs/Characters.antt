-- Bytes that go on to the end of a character are UTF-8, and no others are.
use Rattle.std.proofs.Common.{◌≡◌, ℕ, ◌+◌, ◌-◌, ◌*◌, ◌/◌, ◌%◌, ◌<◌, ◌≤◌, Bool, true, false, cond, List, [], ◌∷◌, ◌++◌, refl, sym, ◌∙◌, ap, subst, arith, inl, inr, append_assoc, Some, None}
use Rattle.std.specs.Prelude.{Option, IsUtf8, encode_utf8_all, nat_lt, ◌==◌}
use Rattle.std.specs.Str.{is_utf8, all_scalars}
use Rattle.std.specs.Char.{IsScalar, encode_utf8}
use Rattle.std.specs.Int.{is_in_range}
use Rattle.std.proofs.lemmas.Str.{IsUtf8-append, IsUtf8-nil, IsUtf8-encode, is_utf8-from_IsUtf8, IsUtf8-from_is_utf8}
use Rattle.std.proofs.lemmas.List.{append-nil}
use Rattle.std.proofs.lemmas.Bool.{and_parts}
use Rattle.std.proofs.lemmas.Bool.Decides.{nat_tests, leb_tells, eqb_tells}
use Rattle.agent_proto.specs.declared.character.Begun.{Begun}
use Rattle.agent_proto.specs.declared.character.Begun.TheVariants.{Whole, One, Two, Three, AfterE0, AfterEd, AfterF0, AfterF4}
use Rattle.agent_proto.specs.Characters.{next_in, char_step, is_whole, ends_whole}

ltb_false : (a b : ℕ) → b ≤ a → nat_lt a b ≡ false
ltb_false a b h = grind (arith, nat_tests)

ltb_true : (a b : ℕ) → a < b → nat_lt a b ≡ true
ltb_true a b h = grind (arith, nat_tests)

-- ---- characters from their bytes

abbrev IsNext : ℕ → ℕ → ℕ → Type 0
IsNext low high b = (low ≤ b) × (b ≤ high)

one_byte : (a : ℕ) → a < 0x80 → IsUtf8 (a ∷ [])
unfolding encode_utf8
one_byte a h =
    let is : encode_utf8 a ≡ a ∷ [] = rw (ltb_true a 128 h) refl in
    subst IsUtf8 is (IsUtf8-encode a (grind (arith, nat_tests)))

two_bytes : (a b : ℕ) → 0xC2 ≤ a → a < 0xE0 → IsNext 0x80 0xBF b → IsUtf8 (a ∷ b ∷ [])
unfolding encode_utf8
two_bytes a b h1 h2 h3 =
    let c = (a - 192) * 64 + (b - 128) in
    let is : encode_utf8 c ≡ a ∷ b ∷ [] = rw (ltb_false c 128 (omega arith), ltb_true c 2048 (omega arith)) (grind arith) in
    subst IsUtf8 is (IsUtf8-encode c (grind (arith, nat_tests)))

three_bytes : (a b x : ℕ) → 0xE0 ≤ a → a < 0xF0 → IsNext 0x80 0xBF b → (a ≡ 0xE0 → 0xA0 ≤ b) → (a ≡ 0xED → b ≤ 0x9F) → IsNext 0x80 0xBF x → IsUtf8 (a ∷ b ∷ x ∷ [])
unfolding encode_utf8
three_bytes a b x h1 h2 hb he0 hed hx =
    let c = (a - 224) * 4096 + (b - 128) * 64 + (x - 128) in
    let low : 2048 ≤ c = elim (eqb_tells a 224) [ inl p ↦ let e = he0 p.1 in omega arith | inr p ↦ omega arith ] in
    let scalar : IsScalar c = elim (eqb_tells a 237) [ inl p ↦ let e = hed p.1 in grind (arith, nat_tests) | inr p ↦ grind (arith, nat_tests) ] in
    let is : encode_utf8 c ≡ a ∷ b ∷ x ∷ [] =
    rw (ltb_false c 128 (omega arith), ltb_false c 2048 low, ltb_true c 65536 (omega arith)) (grind arith) in
    subst IsUtf8 is (IsUtf8-encode c scalar)

four_bytes : (a b x y : ℕ) → 0xF0 ≤ a → a ≤ 0xF4 → IsNext 0x80 0xBF b → (a ≡ 0xF0 → 0x90 ≤ b) → (a ≡ 0xF4 → b ≤ 0x8F) → IsNext 0x80 0xBF x → IsNext 0x80 0xBF y → IsUtf8 (a ∷ b ∷ x ∷ y ∷ [])
unfolding encode_utf8
four_bytes a b x y h1 h2 hb hf0 hf4 hx hy =
    let c = (a - 240) * 262144 + (b - 128) * 4096 + (x - 128) * 64 + (y - 128) in
    let low : 65536 ≤ c = elim (eqb_tells a 240) [ inl p ↦ let e = hf0 p.1 in omega arith | inr p ↦ omega arith ] in
    let high : c < 1114112 = elim (eqb_tells a 244) [ inl p ↦ let e = hf4 p.1 in omega arith | inr p ↦ omega arith ] in
    let is : encode_utf8 c ≡ a ∷ b ∷ x ∷ y ∷ [] =
    rw (ltb_false c 128 (omega arith), ltb_false c 2048 (omega arith), ltb_false c 65536 low) (grind arith) in
    subst IsUtf8 is (IsUtf8-encode c (grind (arith, nat_tests)))

-- ---- bytes that go on to the end of a character are UTF-8

-- what bytes of a character that isn't whole promise: that any that go on so end it
abbrev Promises : Begun → List ℕ → Type 0
Promises Whole front = IsUtf8 front
Promises One front = (b : ℕ) → IsNext 0x80 0xBF b → IsUtf8 (front ++ b ∷ [])
Promises Two front = (b x : ℕ) → IsNext 0x80 0xBF b → IsNext 0x80 0xBF x → IsUtf8 (front ++ b ∷ x ∷ [])
Promises Three front = (b x y : ℕ) → IsNext 0x80 0xBF b → IsNext 0x80 0xBF x → IsNext 0x80 0xBF y → IsUtf8 (front ++ b ∷ x ∷ y ∷ [])
Promises AfterE0 front = (b x : ℕ) → IsNext 0xA0 0xBF b → IsNext 0x80 0xBF x → IsUtf8 (front ++ b ∷ x ∷ [])
Promises AfterEd front = (b x : ℕ) → IsNext 0x80 0x9F b → IsNext 0x80 0xBF x → IsUtf8 (front ++ b ∷ x ∷ [])
Promises AfterF0 front = (b x y : ℕ) → IsNext 0x90 0xBF b → IsNext 0x80 0xBF x → IsNext 0x80 0xBF y → IsUtf8 (front ++ b ∷ x ∷ y ∷ [])
Promises AfterF4 front = (b x y : ℕ) → IsNext 0x80 0x8F b → IsNext 0x80 0xBF x → IsNext 0x80 0xBF y → IsUtf8 (front ++ b ∷ x ∷ y ∷ [])

abbrev PromisesIf : Option Begun → List ℕ → Type 0
PromisesIf None front = Unit {0}
PromisesIf (Some begun) front = Promises begun front

in_range : (low high b : ℕ) (then : Begun) (front : List ℕ) → (IsNext low high b → Promises then front) → PromisesIf (next_in low high b then) front
in_range low high b then front kept = by_test (is_in_range low high b) refl
  where
    by_test : (test : Bool) → is_in_range low high b ≡ test → PromisesIf (cond test (Some then) None) front
    by_test true is = kept (grind (arith, nat_tests))
    by_test false is = tt

cond_if : (test : Bool) (x y : Option Begun) (front : List ℕ) → (test ≡ true → PromisesIf x front) → (test ≡ false → PromisesIf y front) → PromisesIf (cond test x y) front
cond_if true x y front yes_ no_ = yes_ refl
cond_if false x y front yes_ no_ = no_ refl

promises_first : (b : ℕ) (front : List ℕ) → IsUtf8 front → PromisesIf (char_step Whole b) (front ++ b ∷ [])
promises_first b front text =
    let more : (xs : List ℕ) → IsUtf8 (b ∷ xs) → IsUtf8 ((front ++ b ∷ []) ++ xs) = λ xs text'. subst IsUtf8 (sym (append_assoc front (b ∷ []) xs)) (IsUtf8-append front (b ∷ xs) text text') in
    cond_if (nat_lt b 0x80) _ _ _ (λ t. IsUtf8-append front (b ∷ []) text (one_byte b (grind (arith, nat_tests)))) (λ t0.
    cond_if (nat_lt b 0xC2) _ _ _ (λ t. tt) (λ t1.
    cond_if (nat_lt b 0xE0) _ _ _ (λ t. λ x hx. more (x ∷ []) (two_bytes b x (grind (arith, nat_tests)) (grind (arith, nat_tests)) hx)) (λ t2.
    cond_if (b == 0xE0) _ _ _ (λ t. λ x y hx hy. more (x ∷ y ∷ []) (three_bytes b x y (grind (arith, nat_tests)) (grind (arith, nat_tests)) (omega (arith, hx.0, hx.1), hx.1) (λ e. hx.0) (λ e. absurd (grind (arith, nat_tests))) hy)) (λ t3.
    cond_if (b == 0xED) _ _ _ (λ t. λ x y hx hy. more (x ∷ y ∷ []) (three_bytes b x y (grind (arith, nat_tests)) (grind (arith, nat_tests)) (hx.0, omega (arith, hx.1)) (λ e. absurd (grind (arith, nat_tests))) (λ e. hx.1) hy)) (λ t4.
    cond_if (nat_lt b 0xF0) _ _ _ (λ t. λ x y hx hy. more (x ∷ y ∷ []) (three_bytes b x y (grind (arith, nat_tests)) (grind (arith, nat_tests)) hx (λ e. absurd (grind (arith, nat_tests))) (λ e. absurd (grind (arith, nat_tests))) hy)) (λ t5.
    cond_if (b == 0xF0) _ _ _ (λ t. λ x y z hx hy hz. more (x ∷ y ∷ z ∷ []) (four_bytes b x y z (grind (arith, nat_tests)) (grind (arith, nat_tests)) (omega (arith, hx.0), hx.1) (λ e. hx.0) (λ e. absurd (grind (arith, nat_tests))) hy hz)) (λ t6.
    cond_if (nat_lt b 0xF4) _ _ _ (λ t. λ x y z hx hy hz. more (x ∷ y ∷ z ∷ []) (four_bytes b x y z (grind (arith, nat_tests)) (grind (arith, nat_tests)) hx (λ e. absurd (grind (arith, nat_tests))) (λ e. absurd (grind (arith, nat_tests))) hy hz)) (λ t7.
    cond_if (b == 0xF4) _ _ _ (λ t. λ x y z hx hy hz. more (x ∷ y ∷ z ∷ []) (four_bytes b x y z (grind (arith, nat_tests)) (grind (arith, nat_tests)) (hx.0, omega (arith, hx.1)) (λ e. absurd (grind (arith, nat_tests))) (λ e. hx.1) hy hz)) (λ t8. tt)))))))))

promises_step : (begun : Begun) (b : ℕ) (front : List ℕ) → Promises begun front → PromisesIf (char_step begun b) (front ++ b ∷ [])
promises_step Whole b front kept = promises_first b front kept
promises_step One b front kept = in_range 0x80 0xBF b Whole (front ++ b ∷ []) (λ h. kept b h)
promises_step Two b front kept = in_range 0x80 0xBF b One (front ++ b ∷ []) (λ h x hx. subst IsUtf8 (sym (append_assoc front (b ∷ []) (x ∷ []))) (kept b x h hx))
promises_step Three b front kept = in_range 0x80 0xBF b Two (front ++ b ∷ []) (λ h x y hx hy. subst IsUtf8 (sym (append_assoc front (b ∷ []) (x ∷ y ∷ []))) (kept b x y h hx hy))
promises_step AfterE0 b front kept = in_range 0xA0 0xBF b One (front ++ b ∷ []) (λ h x hx. subst IsUtf8 (sym (append_assoc front (b ∷ []) (x ∷ []))) (kept b x h hx))
promises_step AfterEd b front kept = in_range 0x80 0x9F b One (front ++ b ∷ []) (λ h x hx. subst IsUtf8 (sym (append_assoc front (b ∷ []) (x ∷ []))) (kept b x h hx))
promises_step AfterF0 b front kept = in_range 0x90 0xBF b Two (front ++ b ∷ []) (λ h x y hx hy. subst IsUtf8 (sym (append_assoc front (b ∷ []) (x ∷ y ∷ []))) (kept b x y h hx hy))
promises_step AfterF4 b front kept = in_range 0x80 0x8F b Two (front ++ b ∷ []) (λ h x y hx hy. subst IsUtf8 (sym (append_assoc front (b ∷ []) (x ∷ y ∷ []))) (kept b x y h hx hy))

whole_only : (begun : Begun) (front : List ℕ) → is_whole begun ≡ true → Promises begun front → IsUtf8 front
whole_only Whole front is kept = kept
whole_only One front is kept = absurd cc
whole_only Two front is kept = absurd cc
whole_only Three front is kept = absurd cc
whole_only AfterE0 front is kept = absurd cc
whole_only AfterEd front is kept = absurd cc
whole_only AfterF0 front is kept = absurd cc
whole_only AfterF4 front is kept = absurd cc

utf8_behind : (begun : Option Begun) (front bytes : List ℕ) → PromisesIf begun front → ends_whole begun bytes ≡ true → IsUtf8 (front ++ bytes)
utf8_behind None front bytes kept is = absurd cc
utf8_behind (Some begun) front [] kept is = subst IsUtf8 (sym (append-nil front)) (whole_only begun front is kept)
utf8_behind (Some begun) front (b ∷ bytes) kept is = subst IsUtf8 (append_assoc front (b ∷ []) bytes) (utf8_behind (char_step begun b) (front ++ b ∷ []) bytes (promises_step begun b front kept) is)

-- ---- a character's bytes go on to its end

on_with : (begun then : Begun) (b : ℕ) (rest : List ℕ) → char_step begun b ≡ Some then → ends_whole (Some begun) (b ∷ rest) ≡ ends_whole (Some then) rest
on_with begun then b rest is = ap (λ o. ends_whole o rest) is

four_passed : (c : ℕ) (rest : List ℕ) → IsScalar c → 65536 ≤ c → ends_whole (Some Whole) ((240 + c / 262144) ∷ (128 + c / 4096 % 64) ∷ (128 + c / 64 % 64) ∷ (128 + c % 64) ∷ rest) ≡ ends_whole (Some Whole) rest
four_passed c rest scalar low =
    let high : c < 1114112 = grind (arith, nat_tests) in
    let a = 240 + c / 262144 in
    let b = 128 + c / 4096 % 64 in
    let x = 128 + c / 64 % 64 in
    let y = 128 + c % 64 in
    let e1 : char_step Three b ≡ Some Two = grind (arith, nat_tests) in
    let e2 : char_step Two x ≡ Some One = grind (arith, nat_tests) in
    let e3 : char_step One y ≡ Some Whole = grind (arith, nat_tests) in
    let last : ends_whole (Some Two) (x ∷ y ∷ rest) ≡ ends_whole (Some Whole) rest = on_with Two One x (y ∷ rest) e2 ∙ on_with One Whole y rest e3 in
    elim (leb_tells 0x40000 c) [
      | inl q ↦ elim (leb_tells 0x100000 c) [
        | inl r ↦
            let f : char_step Whole a ≡ Some AfterF4 = grind (arith, nat_tests) in
            let g : char_step AfterF4 b ≡ Some Two = grind (arith, nat_tests) in
            on_with Whole AfterF4 a (b ∷ x ∷ y ∷ rest) f ∙ on_with AfterF4 Two b (x ∷ y ∷ rest) g ∙ last
        | inr r ↦
            let f : char_step Whole a ≡ Some Three = grind (arith, nat_tests) in
            on_with Whole Three a (b ∷ x ∷ y ∷ rest) f ∙ on_with Three Two b (x ∷ y ∷ rest) e1 ∙ last
      ]
      | inr q ↦
          let f : char_step Whole a ≡ Some AfterF0 = grind (arith, nat_tests) in
          let g : char_step AfterF0 b ≡ Some Two = grind (arith, nat_tests) in
          on_with Whole AfterF0 a (b ∷ x ∷ y ∷ rest) f ∙ on_with AfterF0 Two b (x ∷ y ∷ rest) g ∙ last
    ]

three_passed : (c : ℕ) (rest : List ℕ) → IsScalar c → 2048 ≤ c → c < 65536 → ends_whole (Some Whole) ((224 + c / 4096) ∷ (128 + c / 64 % 64) ∷ (128 + c % 64) ∷ rest) ≡ ends_whole (Some Whole) rest
three_passed c rest scalar low high =
    let a = 224 + c / 4096 in
    let x = 128 + c / 64 % 64 in
    let y = 128 + c % 64 in
    let e2 : char_step Two x ≡ Some One = grind (arith, nat_tests) in
    let e3 : char_step One y ≡ Some Whole = grind (arith, nat_tests) in
    let last : ends_whole (Some One) (y ∷ rest) ≡ ends_whole (Some Whole) rest = on_with One Whole y rest e3 in
    elim (eqb_tells (c / 4096) 0) [
      | inl r ↦
          let f : char_step Whole a ≡ Some AfterE0 = grind (arith, nat_tests) in
          let g : char_step AfterE0 x ≡ Some One = grind (arith, nat_tests) in
          on_with Whole AfterE0 a (x ∷ y ∷ rest) f ∙ on_with AfterE0 One x (y ∷ rest) g ∙ last
      | inr r ↦ elim (eqb_tells (c / 4096) 13) [
        | inl s ↦
            let f : char_step Whole a ≡ Some AfterEd = grind (arith, nat_tests) in
            let g : char_step AfterEd x ≡ Some One = grind (arith, nat_tests) in
            on_with Whole AfterEd a (x ∷ y ∷ rest) f ∙ on_with AfterEd One x (y ∷ rest) g ∙ last
        | inr s ↦
            let f : char_step Whole a ≡ Some Two = grind (arith, nat_tests) in
            on_with Whole Two a (x ∷ y ∷ rest) f ∙ on_with Two One x (y ∷ rest) e2 ∙ last
      ]
    ]

two_passed : (c : ℕ) (rest : List ℕ) → 128 ≤ c → c < 2048 → ends_whole (Some Whole) ((192 + c / 64) ∷ (128 + c % 64) ∷ rest) ≡ ends_whole (Some Whole) rest
two_passed c rest low high =
    let f : char_step Whole (192 + c / 64) ≡ Some One = grind (arith, nat_tests) in
    let g : char_step One (128 + c % 64) ≡ Some Whole = grind (arith, nat_tests) in
    on_with Whole One (192 + c / 64) ((128 + c % 64) ∷ rest) f ∙ on_with One Whole (128 + c % 64) rest g

one_passed : (c : ℕ) (rest : List ℕ) → c < 128 → ends_whole (Some Whole) (c ∷ rest) ≡ ends_whole (Some Whole) rest
one_passed c rest high =
    let f : char_step Whole c ≡ Some Whole = grind (arith, nat_tests) in
    on_with Whole Whole c rest f

char_passed : (c : ℕ) (rest : List ℕ) → IsScalar c → ends_whole (Some Whole) (encode_utf8 c ++ rest) ≡ ends_whole (Some Whole) rest
unfolding encode_utf8
char_passed c rest scalar = elim (leb_tells 65536 c) [
  | inl p ↦ rw (ltb_false c 128 (omega arith), ltb_false c 2048 (omega arith), ltb_false c 65536 p.1) (four_passed c rest scalar p.1)
  | inr p ↦ elim (leb_tells 2048 c) [
    | inl q ↦ rw (ltb_false c 128 (omega arith), ltb_false c 2048 q.1, ltb_true c 65536 p.1) (three_passed c rest scalar q.1 p.1)
    | inr q ↦ elim (leb_tells 128 c) [
      | inl r ↦ rw (ltb_false c 128 r.1, ltb_true c 2048 q.1) (two_passed c rest r.1 q.1)
      | inr r ↦ rw (ltb_true c 128 r.1) (one_passed c rest r.1)
    ]
  ]
]

chars_passed : (cs : List ℕ) → all_scalars cs ≡ true → ends_whole (Some Whole) (encode_utf8_all cs) ≡ true
chars_passed [] each = refl
chars_passed (c ∷ cs) each =
    let parts = and_parts _ (all_scalars cs) each in
    char_passed c (encode_utf8_all cs) parts.0 ∙ chars_passed cs parts.1

same_tests : (a b : Bool) → (a ≡ true → b ≡ true) → (b ≡ true → a ≡ true) → a ≡ b
same_tests true true to from = refl
same_tests true false to from = sym (to refl)
same_tests false true to from = from refl
same_tests false false to from = refl

pub utf8_is : (bytes : List ℕ) → is_utf8 bytes ≡ ends_whole (Some Whole) bytes
utf8_is bytes = same_tests (is_utf8 bytes) (ends_whole (Some Whole) bytes)
    (λ is. let text = IsUtf8-from_is_utf8 bytes is in subst (λ xs. ends_whole (Some Whole) xs ≡ true) text.1.1 (chars_passed text.0 text.1.0))
    (λ is. is_utf8-from_IsUtf8 bytes (utf8_behind (Some Whole) [] bytes IsUtf8-nil is))
