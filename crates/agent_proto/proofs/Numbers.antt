-- A number's bytes, high byte first, and back.
use Rattle.std.proofs.Common.{◌≡◌, ℕ, zero, suc, ◌+◌, ◌*◌, ◌/◌, ◌%◌, ◌^◌, ◌<◌, ◌≤◌, List, [], ◌∷◌, ◌++◌, length, get_or, take, refl, sym, ap, ap₂, subst, ◌∙◌, arith, add-one}
use Rattle.std.specs.Int.{bytes_high_first, byte_at}
use Rattle.std.proofs.Math.Nat.{pow-succ', mul-le-mul_right, div-lt_iff_lt-mul, le-div_iff_mul-le, mod-lt, mod-eq_of_lt, pow-le-pow_right}
use Rattle.std.proofs.Math.Seq.{take-suc}
use Rattle.std.proofs.lemmas.Nat.{div-add-mod', mod-mul-add}
use Rattle.mux_frames.specs.Numbers.{value_from, value, AreBytes}
use Rattle.mux_frames.proofs.Digits.{value_from-append, value_from-least, value_from-most}
use Rattle.agent_proto.specs.Fields.{number_field}

pow_positive : (k : ℕ) → 0 < 256 ^ k
pow_positive zero = omega arith
pow_positive (suc k) = rw (pow-succ' 256 k) (omega (arith, pow_positive k))

byte_at_is : (k n : ℕ) → byte_at k n ≡ n / 256 ^ k % 256
byte_at_is zero n = omega arith
byte_at_is (suc k) n = refl

-- a remainder by 256 * p in two steps
two_steps : (n p : ℕ) → 0 < p → n % (256 * p) ≡ (n / p % 256) * p + n % p
two_steps n p positive =
    let q = n / p in
    let first : q * p + n % p ≡ n = div-add-mod' n p in
    let second : (q / 256) * 256 + q % 256 ≡ q = div-add-mod' q 256 in
    let grown : ((q / 256) * 256 + q % 256) * p ≡ q * p = ap (λ (x : ℕ). x * p) second in
    let small : q % 256 ≤ 255 = omega arith in
    let scaled : (q % 256) * p ≤ 255 * p = mul-le-mul_right p small in
    let rest : n % p < p = mod-lt n positive in
    let low : (q % 256) * p + n % p < 256 * p = omega (arith, scaled, rest) in
    let whole : n ≡ (q / 256) * (256 * p) + ((q % 256) * p + n % p) = omega (arith, first, grown) in
    ap (λ (x : ℕ). x % (256 * p)) whole ∙ mod-mul-add (q / 256) (256 * p) ((q % 256) * p + n % p) low

value_high : (k h n : ℕ) → value_from h (bytes_high_first k n) ≡ h * 256 ^ k + n % 256 ^ k
value_high zero h n = omega arith
value_high (suc k) h n =
    let p = 256 ^ k in
    let e : 256 ^ suc k ≡ 256 * p = pow-succ' 256 k in
    let b : byte_at k n ≡ n / p % 256 = byte_at_is k n in
    let again : value_from (h * 256 + byte_at k n) (bytes_high_first k n) ≡ (h * 256 + byte_at k n) * p + n % p = value_high k (h * 256 + byte_at k n) n in
    let split : n % (256 * p) ≡ (n / p % 256) * p + n % p = two_steps n p (pow_positive k) in
    let same : byte_at k n * p ≡ (n / p % 256) * p = ap (λ (x : ℕ). x * p) b in
    again ∙ rw e (omega (arith, split, same))

pub length_number : (width n : ℕ) → length (bytes_high_first width n) ≡ width
length_number zero n = refl
length_number (suc width) n = ap suc (length_number width n)

-- the number of a number's bytes
pub value_number : (width n : ℕ) → n < 256 ^ width → value (bytes_high_first width n) ≡ n
value_number width n fits =
    let small : n % 256 ^ width ≡ n = mod-eq_of_lt fits in
    value_high width 0 n ∙ omega (arith, small)

-- the bytes of some bytes' number
pub number_value : (h : ℕ) (bytes : List ℕ) → AreBytes bytes → bytes_high_first (length bytes) (value_from h bytes) ≡ bytes
number_value h [] each = refl
number_value h (b ∷ bytes) each =
    let k = length bytes in
    let p = 256 ^ k in
    let n = value_from (h * 256 + b) bytes in
    let least : (h * 256 + b) * p ≤ n = value_from-least (h * 256 + b) bytes in
    let most : n < (h * 256 + b + 1) * p = value_from-most (h * 256 + b) bytes each.1 in
    let positive : 0 < p = pow_positive k in
    let from : h * 256 + b ≤ n / p = (le-div_iff_mul-le positive).1 least in
    let to : n / p < h * 256 + b + 1 = (div-lt_iff_lt-mul positive).1 most in
    let quotient : n / p ≡ h * 256 + b = omega (arith, from, to) in
    let first : byte_at k n ≡ b = byte_at_is k n ∙ ap (λ (x : ℕ). x % 256) quotient ∙ mod-mul-add h 256 b each.0 in
    ap₂ (λ (x : ℕ) (xs : List ℕ). x ∷ xs) first (number_value (h * 256 + b) bytes each.1)

-- a reader of a number, after i bytes
pub record Reads (digits : List ℕ) (i number : ℕ) : Type 0 where
  pub is : number ≡ value (take i digits)
  pub below : number < 256 ^ i

pub reads_start : (digits : List ℕ) → Reads digits 0 0
reads_start digits = record { is = refl; below = omega arith }

pub reads_on : (digits : List ℕ) (i number : ℕ) → Reads digits i number → i < length digits → get_or digits i 0 < 256 → Reads digits (i + 1) (number * 256 + get_or digits i 0)
reads_on digits i number r within byte =
    let b = get_or digits i 0 in
    let front : take (i + 1) digits ≡ take i digits ++ b ∷ [] = rw add-one (take-suc digits i 0 within) in
    let e : 256 ^ (i + 1) ≡ 256 * 256 ^ i = ap (λ (x : ℕ). 256 ^ x) (add-one i) ∙ pow-succ' 256 i in
    record {
      is = ap (λ (x : ℕ). x * 256 + b) r.is ∙ sym (ap value front ∙ value_from-append 0 (take i digits) (b ∷ []));
      below = rw e (omega (arith, r.below, byte));
    }

-- it fits in sixteen bytes
pub reads_fits : (digits : List ℕ) (i number : ℕ) → Reads digits i number → i ≤ 16 → number < 2 ^ 128
reads_fits digits i number r most =
    let some : 0 < 256 = omega arith in
    let wide : 256 ^ i ≤ 256 ^ 16 = pow-le-pow_right some most in
    omega (arith, wide, r.below)

-- ---- the same of a field, whose word doesn't unfold by itself

pub length_of : (width n : ℕ) → length (number_field width n) ≡ width
unfolding number_field
length_of width n = length_number width n

pub value_of : (width n : ℕ) → n < 256 ^ width → value (number_field width n) ≡ n
unfolding number_field
value_of width n fits = value_number width n fits

pub field_of : (width : ℕ) (digits : List ℕ) → length digits ≡ width → AreBytes digits → number_field width (value digits) ≡ digits
unfolding number_field
field_of width digits len each = subst (λ (k : ℕ). bytes_high_first k (value digits) ≡ digits) len (number_value 0 digits each)

pub below_of : (width : ℕ) (digits : List ℕ) → length digits ≡ width → AreBytes digits → value digits < 256 ^ width
below_of width digits len each =
    let most : value digits < (0 + 1) * 256 ^ length digits = value_from-most 0 digits each in
    subst (λ (k : ℕ). value digits < 256 ^ k) len (omega (arith, most))

-- four bytes are those of the low part
pub low_four : (n : ℕ) → number_field 4 (n % 4294967296) ≡ number_field 4 n
unfolding number_field
low_four n =
    let a : n % 4294967296 / 16777216 % 256 ≡ n / 16777216 % 256 = omega arith in
    let b : n % 4294967296 / 65536 % 256 ≡ n / 65536 % 256 = omega arith in
    let c : n % 4294967296 / 256 % 256 ≡ n / 256 % 256 = omega arith in
    let d : n % 4294967296 % 256 ≡ n % 256 = omega arith in
    rw (a, b, c, d) refl

-- each item of a number's bytes is one
pub bytes_of_number : (width n : ℕ) → AreBytes (bytes_high_first width n)
bytes_of_number zero n = tt
bytes_of_number (suc width) n =
    let some : 0 < 256 = omega arith in
    let small : n / 256 ^ width % 256 < 256 = mod-lt (n / 256 ^ width) some in
    (subst (λ (b : ℕ). b < 256) (sym (byte_at_is width n)) small, bytes_of_number width n)

pub bytes_of_field : (width n : ℕ) → AreBytes (number_field width n)
unfolding number_field
bytes_of_field width n = bytes_of_number width n
