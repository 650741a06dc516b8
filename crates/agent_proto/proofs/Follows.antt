-- A place says which bytes go on behind those that led to it, to the end of a message.
use Rattle.std.proofs.Common.{◌≡◌, ℕ, zero, suc, ◌+◌, ◌-◌, ◌*◌, ◌<◌, ◌≤◌, ◌^◌, Bool, true, false, cond, List, [], ◌∷◌, ◌++◌, length, take, drop, refl, sym, ◌∙◌, ap, subst, arith, inl, inr, Some, None, length-append, append_assoc}
use Rattle.std.specs.Prelude.{nat_le}
use Rattle.std.proofs.lemmas.Bool.{and_parts, leb-true, le-leb}
use Rattle.std.proofs.lemmas.Bool.Decides.{nat_tests, leb_tells}
use Rattle.std.proofs.lemmas.List.{take-append-drop, length-take-le, take_at, drop_at}
use Rattle.mux_frames.specs.Numbers.{value, value_from, AreBytes}
use Rattle.mux_frames.specs.Prefix.{Continues}
use Rattle.mux_frames.proofs.Digits.{AreBytes-append, AreBytes-back, value_from-least, bytes_between}
use Rattle.agent_proto.specs.declared.behind.Behind.{Behind}
use Rattle.agent_proto.specs.declared.field_place.FieldPlace.{FieldPlace}
use Rattle.agent_proto.specs.declared.limits.TheConstants.{MAX_MESSAGE}
use Rattle.agent_proto.specs.declared.message.Message.{Message}
use Rattle.agent_proto.specs.declared.place.Place.{Place}
use Rattle.agent_proto.specs.declared.place.Place.TheVariants.{Head, Kind, Count, Field}
use Rattle.agent_proto.specs.declared.place.Step.TheVariants.{Bad, Whole, On}
use Rattle.agent_proto.specs.Fields.{number_field}
use Rattle.agent_proto.specs.Messages.{body, spelling}
use Rattle.agent_proto.specs.FieldPlaces.{worth}
use Rattle.agent_proto.specs.Behinds.{rows_taken}
use Rattle.agent_proto.specs.Places.{count_taken, is_length, in_head, in_count, IsRest, IsReached, step}
use Rattle.agent_proto.specs.Reading.{message_in, whole}
use Rattle.agent_proto.specs.Streams.{IsSent, IsSpelling}
use Rattle.agent_proto.specs.Follows.{Follows}
use Rattle.agent_proto.proofs.Found.{and_then_found}
use Rattle.agent_proto.proofs.Numbers.{length_of, value_of, field_of}
use Rattle.agent_proto.proofs.MessageLaws.{whole_there, whole_back}
use Rattle.agent_proto.proofs.FieldWalks.{worth_is}
use Rattle.agent_proto.proofs.Comparisons.{le_suc, suc_zero}
use Rattle.agent_proto.proofs.MeasuredWalks.{bytes_front, bytes_drop}
use Rattle.agent_proto.proofs.PlaceLaws.{Means, means_along, GoesOn, field_goes_on}
use Rattle.agent_proto.proofs.StepLaws.{field_means, count_means, count_goes_on}
use Rattle.agent_proto.proofs.KindLaws.{MessageRest, kind_means, body_of_length, length_of_body}

-- ---- a byte at each place

-- bytes are to come
pub field_left : (field : FieldPlace) (b : Behind) (left : ℕ) → IsReached (Field field b left) → 1 ≤ left
field_left field b left ok = some (field_goes_on field b left ok).bytes (field_goes_on field b left ok).rest
  where
    some : (bytes : List ℕ) → IsRest (Field field b left) bytes → 1 ≤ left
    some [] rest = absurd (let e = rest.1 in cc)
    some (x ∷ bytes) rest = let h = rest.0 in omega (arith, h)

head_means : (due value byte : ℕ) → IsReached (Head due value) → Means (in_head (due - 1) (value * 256 + byte)) (λ bytes. IsRest (Head due value) (byte ∷ bytes))
head_means zero value byte ok = absurd (let h = ok.0 in omega (arith, h))
head_means (suc zero) value byte ok = by_test (is_length (value * 256 + byte)) refl
  where
    by_test : (test : Bool) → is_length (value * 256 + byte) ≡ test → Means (cond test (On (Kind (value * 256 + byte))) Bad) (λ bytes. IsRest (Head 1 value) (byte ∷ bytes))
    by_test true is = (is, ((λ bytes each rest. (omega arith, (sym rest.0, (fits_of (length bytes) (subst (λ (n : ℕ). is_length n ≡ true) (sym rest.0) is), rest.1)))), (λ bytes each rest. (sym rest.1.0, rest.1.1.1))))
      where
        fits_of : (n : ℕ) → is_length n ≡ true → n ≤ MAX_MESSAGE
        fits_of n e = elim (leb_tells n MAX_MESSAGE) [ inl p ↦ p.1 | inr p ↦ absurd (let h = p.1 in grind (arith, nat_tests, e, h)) ]
    by_test false is = λ bytes each rest.
        let yes_ : is_length (length bytes) ≡ true = length_of_body bytes rest.1.1.1.0 each rest.1.1.0 rest.1.1.1.1 in
        let same : is_length (value * 256 + byte) ≡ true = subst (λ (n : ℕ). is_length n ≡ true) (sym rest.1.0) yes_ in
        absurd cc
head_means (suc (suc due)) value byte ok =
    let one_less : suc (suc due) - 1 ≡ suc due = omega arith in
    subst (λ (n : ℕ). Means (in_head n (value * 256 + byte)) (λ bytes. IsRest (Head (suc (suc due)) value) (byte ∷ bytes))) (sym one_less)
    (subst (λ z. Means (cond z (cond (is_length (value * 256 + byte)) (On (Kind (value * 256 + byte))) Bad) (cond (nat_le ((value * 256 + byte) * worth (suc due)) MAX_MESSAGE) (On (Head (suc due) (value * 256 + byte))) Bad)) (λ bytes. IsRest (Head (suc (suc due)) value) (byte ∷ bytes))) (sym (suc_zero due)) (by_test (nat_le ((value * 256 + byte) * worth (suc due)) MAX_MESSAGE) refl))
  where
    by_test : (test : Bool) → nat_le ((value * 256 + byte) * worth (suc due)) MAX_MESSAGE ≡ test → Means (cond test (On (Head (suc due) (value * 256 + byte))) Bad) (λ bytes. IsRest (Head (suc (suc due)) value) (byte ∷ bytes))
    by_test true is = ((omega arith, (let h = ok.1.0 in omega (arith, h), leb-true ((value * 256 + byte) * worth (suc due)) MAX_MESSAGE is)), ((λ bytes each rest. (omega (arith, rest.0), rest.1)), (λ bytes each rest. (omega (arith, rest.0), rest.1))))
    by_test false is = λ bytes each rest.
        let long : suc due ≤ length bytes = omega (arith, rest.0) in
        let front : length (take (suc due) bytes) ≡ suc due = length-take-le (suc due) bytes long in
        let w : worth (suc due) ≡ 256 ^ suc due = worth_is (suc due) (let h = ok.1.0 in omega (arith, h)) in
        let least : (value * 256 + byte) * worth (suc due) ≤ value_from (value * 256 + byte) (take (suc due) bytes) = subst (λ (p : ℕ). (value * 256 + byte) * p ≤ value_from (value * 256 + byte) (take (suc due) bytes)) (sym w) (subst (λ (k : ℕ). (value * 256 + byte) * 256 ^ k ≤ value_from (value * 256 + byte) (take (suc due) bytes)) front (value_from-least (value * 256 + byte) (take (suc due) bytes))) in
        let most : nat_le ((value * 256 + byte) * worth (suc due)) MAX_MESSAGE ≡ true = le-leb ((value * 256 + byte) * worth (suc due)) MAX_MESSAGE (omega (arith, least, rest.1.0, rest.1.1.0)) in
        absurd cc

pub place_means : (place : Place) (byte : ℕ) → IsReached place → Means (step place byte) (λ bytes. IsRest place (byte ∷ bytes))
place_means (Head due value) byte ok = head_means due value byte ok
place_means (Kind zero) byte ok = absurd (grind (arith, nat_tests, ok))
place_means (Kind (suc left)) byte ok =
    let one_less : suc left - 1 ≡ left = omega arith in
    let fits_ : suc left ≤ MAX_MESSAGE = elim (leb_tells (suc left) MAX_MESSAGE) [ inl p ↦ p.1 | inr p ↦ absurd (let h = p.1 in grind (arith, nat_tests, ok, h)) ] in
    means_along (step (Kind (suc left)) byte) (MessageRest byte (suc left - 1)) (λ bytes. IsRest (Kind (suc left)) (byte ∷ bytes))
    (λ bytes each rest. (ap suc (rest.0 ∙ one_less), rest.1)) (λ bytes each rest. (omega (arith, rest.0), rest.1)) (kind_means byte (suc left - 1) (omega (arith, fits_)))
place_means (Count due value left) byte ok = count_byte due left ok
  where
    count_byte : (due left : ℕ) → IsReached (Count due value left) → Means (step (Count due value left) byte) (λ bytes. IsRest (Count due value left) (byte ∷ bytes))
    count_byte zero left ok = absurd (let h = ok.0 in omega (arith, h))
    count_byte (suc due) left ok =
        let one_less : suc due - 1 ≡ due = omega arith in
        let can = and_parts (nat_le (suc due) left) _ ok.1.1.1.1 in
        let some : suc due ≤ left = leb-true (suc due) left can.0 in
        subst (λ (n : ℕ). Means (in_count n (value * 256 + byte) (left - 1)) (λ bytes. IsRest (Count (suc due) value left) (byte ∷ bytes))) (sym one_less)
        (means_along (in_count due (value * 256 + byte) (left - 1)) _ (λ bytes. IsRest (Count (suc due) value left) (byte ∷ bytes))
        (λ bytes each rest. (omega (arith, rest.0, some), shift due bytes ∙ rest.1)) (λ bytes each rest. (omega (arith, rest.0), sym (shift due bytes) ∙ rest.1))
        (count_means due (value * 256 + byte) (left - 1) (let h = ok.1.0 in omega (arith, h)) (let h = ok.1.1.0 in omega (arith, h))))
      where
        shift : (due : ℕ) (bytes : List ℕ) → count_taken (suc due) value (byte ∷ bytes) ≡ count_taken due (value * 256 + byte) bytes
        shift due bytes = ap (λ t. cond t (rows_taken (value_from (value * 256 + byte) (take due bytes)) (drop due bytes)) None) (le_suc due (length bytes))
place_means (Field field b left) byte ok =
    let some = field_left field b left ok in
    means_along (step (Field field b left) byte) _ (λ bytes. IsRest (Field field b left) (byte ∷ bytes))
    (λ bytes each rest. (omega (arith, rest.0, some), rest.1)) (λ bytes each rest. (omega (arith, rest.0), rest.1)) (field_means field b left byte ok)

-- ---- some bytes go on from each place

kind_goes_on : (left : ℕ) → IsReached (Kind left) → GoesOn (Kind left)
kind_goes_on left ok = let found = body_of_length left ok in record { bytes = found.bytes; each = found.each; rest = (found.len, found.found) }

-- the least length that goes on from some bytes of it, and a message of it
head_goes_on : (due value : ℕ) → IsReached (Head due value) → GoesOn (Head due value)
head_goes_on due value ok =
    let w : worth due ≡ 256 ^ due = worth_is due ok.1.0 in
    let positive : 256 ≤ worth due = let h = ok.0 in grind (arith, nat_tests, h) in
    let size = size_from (value * worth due) in
    let range = size_range (value * worth due) ok.1.1 in
    let digits = bytes_between due value size (subst (λ (p : ℕ). value * p ≤ size) w range.0) (subst (λ (p : ℕ). size < (value + 1) * p) w (omega (arith, range.1, positive))) in
    let found = body_of_length size range.2 in
    let bytes = digits.0 ++ found.bytes in
    let front : take due bytes ≡ digits.0 = take_at digits.0 found.bytes due digits.1 in
    let back : drop due bytes ≡ found.bytes = drop_at digits.0 found.bytes due digits.1 in
    let len : length (drop due bytes) ≡ size = ap length back ∙ found.len in
    record {
      bytes = bytes;
      each = AreBytes-append digits.0 found.bytes digits.2 found.each;
      rest = (omega (arith, length-append digits.0 found.bytes, digits.1), (ap (value_from value) front ∙ digits.3 ∙ sym len, (omega (arith, len, range.3), subst (λ xs. (message : Message) × (whole (message_in xs) ≡ Some message)) (sym back) found.found)));
    }
  where
    -- the least length from there on
    size_from : ℕ → ℕ
    size_from zero = 1
    size_from (suc zero) = 1
    size_from (suc (suc zero)) = 2
    size_from (suc (suc (suc zero))) = 5
    size_from (suc (suc (suc (suc zero)))) = 5
    size_from (suc (suc (suc (suc (suc n))))) = suc (suc (suc (suc (suc n))))

    size_range : (least : ℕ) → least ≤ MAX_MESSAGE → (least ≤ size_from least) × (size_from least ≤ least + 2) × (is_length (size_from least) ≡ true) × (size_from least ≤ MAX_MESSAGE)
    size_range zero h = (omega arith, omega arith, refl, omega arith)
    size_range (suc zero) h = (omega arith, omega arith, refl, omega arith)
    size_range (suc (suc zero)) h = (omega arith, omega arith, refl, omega arith)
    size_range (suc (suc (suc zero))) h = (omega arith, omega arith, refl, omega arith)
    size_range (suc (suc (suc (suc zero)))) h = (omega arith, omega arith, refl, omega arith)
    size_range (suc (suc (suc (suc (suc n))))) h = (omega arith, omega arith, grind (arith, nat_tests, h), h)

pub goes_on : (place : Place) → IsReached place → GoesOn place
goes_on (Head due value) ok = head_goes_on due value ok
goes_on (Kind left) ok = kind_goes_on left ok
goes_on (Count due value left) ok = count_goes_on due value left ok
goes_on (Field field b left) ok = field_goes_on field b left ok

-- no message ends at a place
no_end : (place : Place) → IsReached place → IsRest place [] → ⊥
no_end (Head due value) ok rest = let h = ok.0 in omega (arith, h, rest.0)
no_end (Kind left) ok rest = absurd (let none = rest.0 in grind (arith, nat_tests, ok, none))
no_end (Count due value left) ok rest =
    let found = and_then_found (nat_le due 0) _ [] rest.1 in
    let h = ok.0 in
    omega (arith, h, leb-true due 0 found.0)
no_end (Field field b left) ok rest = absurd (let e = rest.1 in cc)

-- ---- the bytes that led to a place

-- the bytes of a message are bytes
spelled_bytes : (bytes : List ℕ) → IsSpelling bytes → AreBytes bytes
spelled_bytes bytes is = subst AreBytes (sym is.2) is.1.bytes

pub follows_start : Follows [] (Head 4 0)
follows_start = record {
  bytes = tt;
  reached = (omega arith, (omega arith, omega arith));
  goes = λ rest each is.
      let front = take 4 rest in
      let len : length front ≡ 4 = length-take-le 4 rest is.0 in
      let found = whole_back (drop 4 rest) is.1.1.1.0 (bytes_drop 4 rest each) is.1.1.1.1 in
      let message = is.1.1.1.0 in
      let fits_ : length (body message) ≤ MAX_MESSAGE = subst (λ xs. length xs ≤ MAX_MESSAGE) found.1 is.1.1.0 in
      let size : value front ≡ length (body message) = is.1.0 ∙ ap length found.1 in
      let digits : front ≡ number_field 4 (length (body message)) = sym (field_of 4 front len (bytes_front 4 rest each)) ∙ ap (number_field 4) size in
      let all : rest ≡ spelling message = sym (take-append-drop 4 rest) ∙ ap (λ xs. xs ++ drop 4 rest) digits ∙ ap (λ xs. number_field 4 (length (body message)) ++ xs) found.1 in
      (message, record { sound = record { fields = found.0; fits = fits_ }; bytes = subst AreBytes all each }, all);
  comes = λ rest is. subst (IsRest (Head 4 0)) (sym is.2) (spelled is.0 is.1);
}
  where
    spelled : (message : Message) → IsSent message → IsRest (Head 4 0) (spelling message)
    spelled message sent =
        let n = number_field 4 (length (body message)) in
        let len : length n ≡ 4 = length_of 4 (length (body message)) in
        let front : take 4 (spelling message) ≡ n = take_at n (body message) 4 len in
        let back : drop 4 (spelling message) ≡ body message = drop_at n (body message) 4 len in
        let fits_ = sent.sound.fits in
        let value_is : value n ≡ length (body message) = value_of 4 (length (body message)) (omega (arith, fits_)) in (
          omega (arith, length-append n (body message), len),
          (ap value front ∙ value_is ∙ ap length (sym back), (subst (λ xs. length xs ≤ MAX_MESSAGE) (sym back) fits_, (message, ap (λ xs. whole (message_in xs)) back ∙ whole_there message sent.sound.fields))),
        )

pub follows_on : (seen : List ℕ) (place then : Place) (byte : ℕ) → byte < 256 → Follows seen place → step place byte ≡ On then → Follows (seen ++ byte ∷ []) then
follows_on seen place then byte small f is =
    let means : Means (On then) (λ bytes. IsRest place (byte ∷ bytes)) = subst (λ s. Means s (λ bytes. IsRest place (byte ∷ bytes))) is (place_means place byte f.reached) in
    record {
      bytes = AreBytes-append seen (byte ∷ []) f.bytes (small, tt);
      reached = means.0;
      goes = λ rest each h. subst IsSpelling (sym (append_assoc seen (byte ∷ []) rest)) (f.goes (byte ∷ rest) (small, each) (means.1.0 rest each h));
      comes = λ rest h.
          let spelled = subst IsSpelling (append_assoc seen (byte ∷ []) rest) h in
          means.1.1 rest (AreBytes-back (seen ++ byte ∷ []) rest (spelled_bytes ((seen ++ byte ∷ []) ++ rest) h)) (f.comes (byte ∷ rest) spelled);
    }

pub follows_whole : (seen : List ℕ) (place : Place) (byte : ℕ) → byte < 256 → Follows seen place → step place byte ≡ Whole → IsSpelling (seen ++ byte ∷ [])
follows_whole seen place byte small f is =
    let means : Means Whole (λ bytes. IsRest place (byte ∷ bytes)) = subst (λ s. Means s (λ bytes. IsRest place (byte ∷ bytes))) is (place_means place byte f.reached) in
    f.goes (byte ∷ []) (small, tt) means.0

pub follows_continues : (seen : List ℕ) (place : Place) → Follows seen place → Continues IsSpelling seen
follows_continues seen place f = by_rest (goes_on place f.reached).bytes (goes_on place f.reached).each (goes_on place f.reached).rest
  where
    by_rest : (bytes : List ℕ) → AreBytes bytes → IsRest place bytes → Continues IsSpelling seen
    by_rest [] each rest = absurd (no_end place f.reached rest)
    by_rest (x ∷ bytes) each rest = (x, bytes, f.goes (x ∷ bytes) each rest)

-- no message goes on with a byte that is bad, and one goes on before it
pub follows_bad : (seen : List ℕ) (place : Place) (byte : ℕ) → Follows seen place → step place byte ≡ Bad → (more : List ℕ) → IsSpelling ((seen ++ byte ∷ []) ++ more) → ⊥
follows_bad seen place byte f is more spelled =
    let means : Means Bad (λ bytes. IsRest place (byte ∷ bytes)) = subst (λ s. Means s (λ bytes. IsRest place (byte ∷ bytes))) is (place_means place byte f.reached) in
    means more (AreBytes-back (seen ++ byte ∷ []) more (spelled_bytes ((seen ++ byte ∷ []) ++ more) spelled)) (f.comes (byte ∷ more) (subst IsSpelling (append_assoc seen (byte ∷ []) more) spelled))
