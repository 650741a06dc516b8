-- Decimal numbers are read as they are written.
use Rattle.std.proofs.Common.{◌≡◌, ℕ, ◌<◌, ◌^◌, ◌↔◌, Bool, true, false, not, ◌&&◌, Some, None, List, [], ◌∷◌, length, get_or, refl, sym, ap, ap₂, subst, suc, zero, ◌∙◌, arith}
use Rattle.std.specs.Prelude.{Result, Ok, Err, decimal, ◌==◌, ◌≢◌}
use Rattle.std.specs.Str.{all_ascii_digits, IsUtf8}
use Rattle.std.specs.Str.Parse.{ParsesUnsigned, digits_value}
use Rattle.std.proofs.lemmas.Fmt.{decimal-digits_value, parse-decimal, first_decimal, IsAscii-decimal, decimal_digit}
use Rattle.std.proofs.lemmas.Str.Parse.{IsNumeralModel, numerals_by_value, tells_all_ascii_digits, parse_plain}
use Rattle.std.proofs.lemmas.Str.{IsUtf8-from_ascii}
use Rattle.std.proofs.lemmas.Bool.Decides.{nat_tests}
use Rattle.line_words.specs.Numbers.{is_bare}

own : IsNumeralModel (λ ds. all_ascii_digits ds ≡ true) (digits_value 10)
own = numerals_by_value _ tells_all_ascii_digits

not_is : (c k : ℕ) → not (c == k) ≡ true → c ≡ k → ⊥
not_is c k h e = absurd (grind (arith, nat_tests))

both : (a b : Bool) → (a && b) ≡ true → (a ≡ true) × (b ≡ true)
both true b h = (refl, h)
both false b h = absurd (cc)

bare_plus : (bs : List ℕ) → is_bare bs ≡ true → get_or bs 0 0 ≢ 43
bare_plus [] h = λ e. omega arith
bare_plus (c ∷ []) h = not_is c 43 h
bare_plus (c ∷ d ∷ ds) h = not_is c 43 (both (not (c == 43)) (not (c == 48)) h).0

bare_zero : (bs : List ℕ) → is_bare bs ≡ true → get_or bs 0 0 ≡ 48 → length bs ≡ 1
bare_zero [] h e = absurd (omega arith)
bare_zero (c ∷ []) h e = refl
bare_zero (c ∷ d ∷ ds) h e = absurd (not_is c 48 (both (not (c == 43)) (not (c == 48)) h).1 e)

above : (c k : ℕ) → k < c → not (c == k) ≡ true
above c k h = grind (arith, nat_tests)

bare_above : (bs : List ℕ) → 48 < get_or bs 0 0 → is_bare bs ≡ true
bare_above [] h = refl
bare_above (c ∷ []) h = above c 43 (omega arith)
bare_above (c ∷ d ∷ ds) h = ap₂ (λ a b. a && b) (above c 43 (omega arith)) (above c 48 h)

-- what a decimal number begins with
pub decimal_bare : (n : ℕ) → n < 2 ^ 64 → is_bare (decimal n) ≡ true
decimal_bare zero h = ap is_bare (decimal_digit 0 (omega arith))
decimal_bare (suc n) h = bare_above (decimal (suc n)) (first_decimal (suc n) (omega arith) h)

parse_exact : {E : Type 0} (bs : List ℕ) (r : Result ℕ E) → ParsesUnsigned 64 10 bs r → is_bare bs ≡ true
    → (n : ℕ) → (r ≡ Ok n) ↔ ((n < 2 ^ 64) × (bs ≡ decimal n))
parse_exact {E} bs (Ok x) h b n =
    let r : Result ℕ E = Ok x in
    let told = parse_plain own 64 bs r h (bare_plus bs b) in
    let back : decimal (digits_value 10 bs) ≡ bs = decimal-digits_value own bs told.0.0 told.0.1 (bare_zero bs b) told.0.2 in (
      λ e. let same : x ≡ n = cc in (rw (← same, told.1) told.0.2, sym back ∙ ap decimal (sym told.1 ∙ same)),
      λ f. parse-decimal 64 n bs r f.0 f.0 f.1 h,
    )
parse_exact {E} bs (Err e) h b n = (λ s. absurd (cc), λ f. parse-decimal 64 n bs (Err e) f.0 f.0 f.1 h)

pub read_some : (E : Type 0) (bs : List ℕ) (x : ℕ) → ParsesUnsigned {E = E} 64 10 bs (Ok x) → is_bare bs ≡ true
    → (n : ℕ) → (Some x ≡ Some n) ↔ ((n < 2 ^ 64) × (bs ≡ decimal n))
read_some E bs x h b n =
    let exact = parse_exact {E = E} bs (Ok x) h b n in
    (λ s. exact.0 (cc), λ f. let e = exact.1 f in cc)

pub read_none : (E : Type 0) (bs : List ℕ) (e : E) → ParsesUnsigned {E = E} 64 10 bs (Err e) → is_bare bs ≡ true
    → (n : ℕ) → (None ≡ Some n) ↔ ((n < 2 ^ 64) × (bs ≡ decimal n))
read_none E bs e h b n =
    let exact = parse_exact {E = E} bs (Err e) h b n in
    (λ s. absurd (cc), λ f. let k = exact.1 f in absurd (cc))

-- bytes that are no decimal number
pub not_decimal : (bs : List ℕ) → ((n : ℕ) → n < 2 ^ 64 → bs ≡ decimal n → ⊥) → (n : ℕ) → (None ≡ Some n) ↔ ((n < 2 ^ 64) × (bs ≡ decimal n))
not_decimal bs h n = (λ s. absurd (cc), λ f. absurd (h n f.0 f.1))

pub not_bare : (bs : List ℕ) → is_bare bs ≡ false → (n : ℕ) → n < 2 ^ 64 → bs ≡ decimal n → ⊥
not_bare bs h n lt e =
    let bare : is_bare bs ≡ true = ap is_bare e ∙ decimal_bare n lt in
    absurd (cc)

pub not_text : (bs : List ℕ) → (IsUtf8 bs → ⊥) → (n : ℕ) → n < 2 ^ 64 → bs ≡ decimal n → ⊥
not_text bs h n lt e = h (subst IsUtf8 (sym e) (IsUtf8-from_ascii (decimal n) (IsAscii-decimal n lt)))
