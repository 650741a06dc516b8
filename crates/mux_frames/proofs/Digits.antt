-- Numbers that go on from some bytes are those of one range: this is read off the first bytes.
use Rattle.std.proofs.Common.{◌≡◌, ℕ, zero, suc, ◌+◌, ◌-◌, ◌*◌, ◌/◌, ◌^◌, ◌<◌, ◌≤◌, List, [], ◌∷◌, ◌++◌, length, get_or, take, max, refl, ap, ◌∙◌, arith, add-one, length-append}
use Rattle.std.proofs.Math.Nat.{pow-succ', mul-le-mul_right, div-mul-le_self, lt-div-mul-add, div-lt_iff_lt-mul, le-div_iff_mul-le}
use Rattle.std.proofs.Math.Seq.{take-suc}
use Rattle.std.proofs.lemmas.List.{length-take-le}
use Rattle.mux_frames.specs.Prefix.{Continues, IsFault}
use Rattle.mux_frames.specs.Numbers.{value_from, value, AreBytes, IsNumber}

pub value_from-append : (n : ℕ) (xs ys : List ℕ) → value_from n (xs ++ ys) ≡ value_from (value_from n xs) ys
value_from-append n [] ys = refl
value_from-append n (b ∷ xs) ys = value_from-append (n * 256 + b) xs ys

pub AreBytes-append : (xs ys : List ℕ) → AreBytes xs → AreBytes ys → AreBytes (xs ++ ys)
AreBytes-append [] ys p q = q
AreBytes-append (b ∷ xs) ys p q = (p.0, AreBytes-append xs ys p.1 q)

pub AreBytes-back : (xs ys : List ℕ) → AreBytes (xs ++ ys) → AreBytes ys
AreBytes-back [] ys p = p
AreBytes-back (b ∷ xs) ys p = AreBytes-back xs ys p.1

-- the least number that begins with n and has so many bytes behind it
pub value_from-least : (n : ℕ) (bytes : List ℕ) → n * 256 ^ length bytes ≤ value_from n bytes
value_from-least n [] = omega arith
value_from-least n (b ∷ bytes) =
    let p = 256 ^ length bytes in
    let e : 256 ^ suc (length bytes) ≡ 256 * 256 ^ length bytes = pow-succ' 256 (length bytes) in
    let wider : (n * 256) * p ≤ (n * 256 + b) * p = mul-le-mul_right p (omega arith) in
    rw e (omega (arith, wider, value_from-least (n * 256 + b) bytes))

-- and no number that begins with n is as large as the least that begins with n + 1
pub value_from-most : (n : ℕ) (bytes : List ℕ) → AreBytes bytes → value_from n bytes < (n + 1) * 256 ^ length bytes
value_from-most n [] each = omega arith
value_from-most n (b ∷ bytes) each =
    let p = 256 ^ length bytes in
    let e : 256 ^ suc (length bytes) ≡ 256 * 256 ^ length bytes = pow-succ' 256 (length bytes) in
    let wider : (n * 256 + b + 1) * p ≤ ((n + 1) * 256) * p = mul-le-mul_right p (omega (arith, each.0)) in
    rw e (omega (arith, wider, value_from-most (n * 256 + b) bytes each.1))

-- each number between has its bytes
pow_positive : (k : ℕ) → 0 < 256 ^ k
pow_positive zero = omega arith
pow_positive (suc k) = rw (pow-succ' 256 k) (omega (arith, pow_positive k))

-- what is longer goes on
goes_on : (IsText : List ℕ → Type 0) (bytes more : List ℕ) → 0 < length more → IsText (bytes ++ more) → Continues IsText bytes
goes_on IsText bytes [] some text = absurd (omega arith)
goes_on IsText bytes (next ∷ more) some text = (next, more, text)

pub bytes_between : (k n v : ℕ) → n * 256 ^ k ≤ v → v < (n + 1) * 256 ^ k → (bytes : List ℕ) × (length bytes ≡ k) × AreBytes bytes × (value_from n bytes ≡ v)
bytes_between zero n v low high = ([], refl, tt, omega (arith, low, high))
bytes_between (suc k) n v low high =
    let p = 256 ^ k in
    let e : 256 ^ suc k ≡ 256 * 256 ^ k = pow-succ' 256 k in
    let low' = rw e at low in
    let high' = rw e at high in
    let positive : 0 < p = pow_positive k in
    let above : n * 256 ≤ v / p = (le-div_iff_mul-le positive).1 (omega (arith, low')) in
    let below : v / p < (n + 1) * 256 = (div-lt_iff_lt-mul positive).1 (omega (arith, high')) in
    let b = v / p - n * 256 in
    let again : n * 256 + b ≡ v / p = omega (arith, above) in
    let rest = bytes_between k (n * 256 + b) v (rw again (div-mul-le_self v p)) (rw again (omega (arith, lt-div-mul-add {a = v} {b = p} positive))) in
    (b ∷ rest.0, ap suc {x = length rest.0} rest.1, (omega (arith, again, below), rest.2), rest.3)

-- a range that meets those that go on from the bytes has one of them
pub number_continues : (width low high : ℕ) (bytes : List ℕ) → length bytes < width → AreBytes bytes → low ≤ high → value bytes * 256 ^ (width - length bytes) ≤ high
    → low < (value bytes + 1) * 256 ^ (width - length bytes) → Continues (IsNumber width low high) bytes
number_continues width low high bytes short each range below above =
    let k = width - length bytes in
    let n = value bytes in
    let span = 256 ^ k in
    let positive : 0 < span = pow_positive k in
    let v = max low (n * span) in
    let found = bytes_between k n v (omega arith) (omega arith) in
    let value_is : value (bytes ++ found.0) ≡ v = value_from-append 0 bytes found.0 ∙ found.3 in
    let number : IsNumber width low high (bytes ++ found.0) = record {
      width_is = omega (arith, length-append bytes found.0, found.1);
      each = AreBytes-append bytes found.0 each found.2;
      from_low = rw value_is (omega arith);
      to_high = rw value_is (omega arith);
    } in
    goes_on (IsNumber width low high) bytes found.0 (omega (arith, found.1)) number

-- no number goes on where the least that does is too high, or the greatest too low
pub number_stops : (width low high : ℕ) (bytes more : List ℕ) → IsNumber width low high (bytes ++ more)
    → (value bytes * 256 ^ (width - length bytes) ≤ high) × (low < (value bytes + 1) * 256 ^ (width - length bytes))
number_stops width low high bytes more number =
    let k : width - length bytes ≡ length more = omega (arith, number.width_is, length-append bytes more) in
    let value_is : value (bytes ++ more) ≡ value_from (value bytes) more = value_from-append 0 bytes more in
    let least = value_from-least (value bytes) more in
    let most = value_from-most (value bytes) more (AreBytes-back bytes more number.each) in
    rw k (omega (arith, least, number.to_high, value_is), omega (arith, most, number.from_low, value_is))

-- what a reader of a number knows after i bytes: those that go on are `least` and the `span - 1` behind it
pub record Tracks (width low high : ℕ) (bytes : List ℕ) (i least span : ℕ) : Type 0 where
  pub seen : i ≤ length bytes
  pub each : AreBytes (take i bytes)
  pub span_is : span ≡ 256 ^ (width - i)
  pub least_is : least ≡ value (take i bytes) * span
  pub fits : least + span ≤ 2 ^ 32
  pub above : low < least + span
  pub below : least ≤ high

-- one byte more
pub record Step (width : ℕ) (bytes : List ℕ) (i least span : ℕ) : Type 0 where
  pub seen : i + 1 ≤ length bytes
  pub each : AreBytes (take (i + 1) bytes)
  pub span_is : span / 256 ≡ 256 ^ (width - (i + 1))
  pub least_is : least + get_or bytes i 0 * (span / 256) ≡ value (take (i + 1) bytes) * (span / 256)
  pub fits : (least + get_or bytes i 0 * (span / 256)) + span / 256 ≤ 2 ^ 32

pub next_byte : (width low high : ℕ) (bytes : List ℕ) (i least span : ℕ) → Tracks width low high bytes i least span → i < width → i < length bytes → get_or bytes i 0 < 256 → Step width bytes i least span
next_byte width low high bytes i least span t in_width in_bytes is_byte =
    let b = get_or bytes i 0 in
    let s = 256 ^ (width - (i + 1)) in
    let k : width - i ≡ suc (width - (i + 1)) = omega arith in
    let wide : span ≡ 256 * s = t.span_is ∙ ap (λ (n : ℕ). 256 ^ n) k ∙ pow-succ' 256 (width - (i + 1)) in
    let part : span / 256 ≡ s = omega (arith, wide) in
    let front : take (i + 1) bytes ≡ take i bytes ++ b ∷ [] = rw add-one (take-suc bytes i 0 in_bytes) in
    let value_is : value (take (i + 1) bytes) ≡ value (take i bytes) * 256 + b = ap value front ∙ value_from-append 0 (take i bytes) (b ∷ []) in
    let small : b * s ≤ 255 * s = mul-le-mul_right s (omega arith) in
    let least_was : least ≡ value (take i bytes) * (256 * s) = t.least_is ∙ ap (λ (n : ℕ). value (take i bytes) * n) wide in
    record {
      seen = omega arith;
      each = rw front (AreBytes-append (take i bytes) (b ∷ []) t.each (is_byte, tt));
      span_is = part;
      least_is = rw (part, value_is) (omega (arith, least_was));
      fits = rw part (omega (arith, small, wide, t.fits));
    }

pub tracks_on : (width low high : ℕ) (bytes : List ℕ) (i least span : ℕ) → Step width bytes i least span → least + get_or bytes i 0 * (span / 256) ≤ high → low < (least + get_or bytes i 0 * (span / 256)) + span / 256
    → Tracks width low high bytes (i + 1) (least + get_or bytes i 0 * (span / 256)) (span / 256)
tracks_on width low high bytes i least span s below above =
    record { seen = s.seen; each = s.each; span_is = s.span_is; least_is = s.least_is; fits = s.fits; above = above; below = below }

-- the bytes so far go on
pub tracks_continues : (width low high : ℕ) (bytes : List ℕ) (i least span : ℕ) → Tracks width low high bytes i least span → low ≤ high → i < width → Continues (IsNumber width low high) (take i bytes)
tracks_continues width low high bytes i least span t range in_width =
    let len : length (take i bytes) ≡ i = length-take-le i bytes t.seen in
    number_continues width low high (take i bytes) (omega (arith, len)) t.each range
    (rw (len, ← t.span_is) (omega (arith, t.least_is, t.below)))
    (rw (len, ← t.span_is) (omega (arith, t.least_is, t.above)))

-- this byte is the first that doesn't
pub tracks_fault : (width low high : ℕ) (bytes : List ℕ) (i least span : ℕ) → Tracks width low high bytes i least span → Step width bytes i least span → low ≤ high → i < width
    → (least + get_or bytes i 0 * (span / 256) ≤ high → low < (least + get_or bytes i 0 * (span / 256)) + span / 256 → ⊥) → IsFault (IsNumber width low high) bytes i
tracks_fault width low high bytes i least span t s range in_width misses =
    let len : length (take (i + 1) bytes) ≡ i + 1 = length-take-le (i + 1) bytes s.seen in
    record {
      within = omega (arith, s.seen);
      before = tracks_continues width low high bytes i least span t range in_width;
      none = λ more number.
          let meets = number_stops width low high (take (i + 1) bytes) more number in
          let meets' = rw (len, ← s.span_is) at meets in
          misses (omega (arith, s.least_is, meets'.0)) (omega (arith, s.least_is, meets'.1));
    }

-- all of the number is there
pub tracks_whole : (width low high : ℕ) (bytes : List ℕ) (least span : ℕ) → Tracks width low high bytes width least span → IsNumber width low high (take width bytes) × (least ≡ value (take width bytes))
tracks_whole width low high bytes least span t =
    let k : width - width ≡ 0 = omega arith in
    let one : span ≡ 1 = t.span_is ∙ ap (λ (n : ℕ). 256 ^ n) k in
    let least_is : least ≡ value (take width bytes) = t.least_is ∙ ap (λ (n : ℕ). value (take width bytes) * n) one ∙ (omega arith) in
    (record { width_is = length-take-le width bytes t.seen; each = t.each; from_low = omega (arith, least_is, one, t.above); to_high = omega (arith, least_is, t.below) }, least_is)
