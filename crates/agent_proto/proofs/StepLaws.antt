-- A byte more leads from each place to one of the places, and says what goes on behind it.
use Rattle.std.proofs.Common.{◌≡◌, ℕ, zero, suc, ◌+◌, ◌-◌, ◌*◌, ◌/◌, ◌<◌, ◌≤◌, ◌^◌, Bool, true, false, cond, ◌&&◌, ◌||◌, List, [], ◌++◌, length, take, drop, refl, sym, ◌∙◌, ap, subst, arith, ◌⊎◌, inl, inr, Some, None, length-append, length-drop}
use Rattle.std.specs.Prelude.{Option, nat_le, nat_lt, ◌==◌, max}
use Rattle.std.specs.Option.{option_and_then}
use Rattle.std.proofs.lemmas.Bool.{and_parts, leb-true, le-leb}
use Rattle.std.proofs.lemmas.Bool.Decides.{nat_tests, eqb_tells}
use Rattle.std.proofs.lemmas.List.{length-take-le, take_at, drop_at}
use Rattle.mux_frames.specs.Numbers.{value_from, AreBytes}
use Rattle.mux_frames.proofs.Digits.{AreBytes-append, value_from-least, value_from-most, bytes_between}
use Rattle.agent_proto.specs.declared.character.Begun.{Begun}
use Rattle.agent_proto.specs.declared.path_place.PathPlace.{PathPlace}
use Rattle.agent_proto.specs.declared.behind.Behind.{Behind}
use Rattle.agent_proto.specs.declared.behind.Behind.TheVariants as behind
use Rattle.agent_proto.specs.declared.field_place.Wanted.{Wanted}
use Rattle.agent_proto.specs.declared.field_place.Measured.{Measured}
use Rattle.agent_proto.specs.declared.field_place.Measured.TheVariants as measured
use Rattle.agent_proto.specs.declared.field_place.FieldPlace.{FieldPlace}
use Rattle.agent_proto.specs.declared.field_place.FieldPlace.TheVariants.{Any, AnyThenBit, Found, Done, Size, Path, Text}
use Rattle.agent_proto.specs.declared.field_place.Next.{Next}
use Rattle.agent_proto.specs.declared.field_place.Next.TheVariants.{Refused, Whole as whole_field, On as on_field}
use Rattle.agent_proto.specs.declared.limits.TheConstants.{MAX_MESSAGE}
use Rattle.agent_proto.specs.declared.place.Place.TheVariants.{Count, Field}
use Rattle.agent_proto.specs.declared.place.Step.TheVariants.{Bad, On}
use Rattle.agent_proto.specs.Characters.{char_step, bytes_due}
use Rattle.agent_proto.specs.PathPlaces.{name_start, path_step, behind_slash, behind_byte, behind_letter, can_end}
use Rattle.agent_proto.specs.FieldPlaces.{may_be_none, may_be_dir, may_be_link, may_be_other, width, least_size, most_size, worth, some_bytes, behind_size, size_step, any_step, bit_step, whole_if, link_if, found_step, done_step, path_next, text_next, field_step, taken, IsPlace}
use Rattle.agent_proto.specs.Behinds.{next_field, rows_taken, behind_taken}
use Rattle.agent_proto.specs.Places.{count_taken, after, can_count, in_count, IsReached, IsNext, step}
use Rattle.agent_proto.proofs.Found.{cond_found, and_then_found, map_found}
use Rattle.agent_proto.proofs.PathRoom.{has_room_of, step_len}
use Rattle.agent_proto.proofs.FieldWalks.{worth_is}
use Rattle.agent_proto.proofs.Comparisons.{le_zero, suc_zero}
use Rattle.agent_proto.proofs.MeasuredWalks.{bytes_front, bytes_drop}
use Rattle.agent_proto.proofs.FieldSizes.{start_room}
use Rattle.agent_proto.proofs.BehindSizes.{rows_measures}
use Rattle.agent_proto.proofs.PlaceLaws.{Means, means_along, after_means, in_field_means, GoesOn}

-- ---- a byte within a field leads to one of the places

if_next : (test : Bool) (a b : Next) → (test ≡ true → IsNext a) → (test ≡ false → IsNext b) → IsNext (cond test a b)
if_next true a b first second = first refl
if_next false a b first second = second refl

any_ok : (count : ℕ) → count < 2 ^ 32 → IsNext (any_step count)
any_ok count few = if_next (nat_le count 1) whole_field (on_field (Any (count - 1))) (λ e. tt) (λ e. let more : 1 < count = grind (arith, nat_tests, e) in (omega (arith, more), omega (arith, few)))

bit_ok : (count byte : ℕ) → count ≤ 16 → IsNext (bit_step count byte)
bit_ok count byte few = if_next (count == 0) (cond (nat_le byte 1) whole_field Refused) (on_field (AnyThenBit (count - 1))) (λ e. if_next (nat_le byte 1) whole_field Refused (λ _. tt) (λ _. tt)) (λ e. omega (arith, few))

found_ok : (w : Wanted) (byte : ℕ) → IsNext (found_step w byte)
found_ok w byte =
    if_next (byte == 0) (whole_if (may_be_none w)) _ (λ _. whole_ok (may_be_none w)) (λ _.
    if_next (byte == 1) (whole_if (may_be_dir w)) _ (λ _. whole_ok (may_be_dir w)) (λ _.
    if_next (byte == 2) (on_field (AnyThenBit 16)) _ (λ _. omega arith) (λ _.
    if_next (byte == 3) (link_if (may_be_link w)) _ (λ _. if_next (may_be_link w) (on_field (Size measured.Text 2 0)) Refused (λ _. (omega arith, omega arith, omega arith, omega arith, omega arith)) (λ _. tt)) (λ _.
    if_next (byte == 4) (whole_if (may_be_other w)) Refused (λ _. whole_ok (may_be_other w)) (λ _. tt)))))
  where
    whole_ok : (may : Bool) → IsNext (whole_if may)
    whole_ok true = tt
    whole_ok false = tt

done_ok : (byte : ℕ) → IsNext (done_step byte)
done_ok byte = if_next (byte == 0) whole_field (cond (byte == 1) (on_field (Any 16)) Refused) (λ _. tt) (λ _. if_next (byte == 1) (on_field (Any 16)) Refused (λ _. (omega arith, omega arith)) (λ _. tt))

some_ok : (size : ℕ) → size < 2 ^ 32 → IsNext (some_bytes size)
some_ok size few = if_next (size == 0) whole_field (on_field (Any size)) (λ _. tt) (λ e. let some : 1 ≤ size = grind (arith, nat_tests, e) in (some, few))

text_ok : (names size : ℕ) → 1 ≤ size → size ≤ 4096 → names ≤ 63 → size ≤ 255 + 256 * names → IsPlace (Path (name_start names) size)
text_ok names size some most few room =
    (some, most, omega arith, few, has_room_of 0 0 size names false (start_room names size some room))

behind_ok : (m : Measured) (size : ℕ) → least_size m ≤ size → size ≤ most_size m → IsNext (behind_size m size)
behind_ok measured.Path size least most = if_next (size == 0) whole_field (on_field (Path (name_start 63) size)) (λ _. tt) (λ e. let some : 1 ≤ size = grind (arith, nat_tests, e) in text_ok 63 size some most (omega arith) (omega (arith, most)))
behind_ok measured.Name size least most = text_ok 0 size least (omega (arith, most)) (omega arith) (omega (arith, most))
behind_ok measured.Text size least most = (least, most, omega arith)
behind_ok measured.Bytes size least most = some_ok size (omega (arith, most))
behind_ok measured.Piece size least most = some_ok size (omega (arith, most))

-- a number is at most as great as with bytes behind it
worth_grows : (due value : ℕ) → due ≤ 4 → value ≤ value * worth due
worth_grows zero value few = omega arith
worth_grows (suc zero) value few = omega arith
worth_grows (suc (suc zero)) value few = omega arith
worth_grows (suc (suc (suc zero))) value few = omega arith
worth_grows (suc (suc (suc (suc zero)))) value few = omega arith
worth_grows (suc (suc (suc (suc (suc n))))) value few = absurd (omega (arith, few))

most_fits : (m : Measured) → most_size m < 2 ^ 32
most_fits measured.Path = omega arith
most_fits measured.Name = omega arith
most_fits measured.Text = omega arith
most_fits measured.Bytes = omega arith
most_fits measured.Piece = omega arith

size_ok : (m : Measured) (due value : ℕ) → due ≤ 4 → due ≤ width m → IsNext (size_step m due value)
size_ok m due value few wide = if_next (nat_le (value * worth due) (most_size m)) _ Refused (λ most.
    let top : value * worth due ≤ most_size m = leb-true (value * worth due) (most_size m) most in
    let least_value : value ≤ most_size m = omega (arith, worth_grows due value few, top) in
    if_next (due == 0) (cond (nat_le (least_size m) value) (behind_size m value) Refused) (on_field (Size m due value))
    (λ none. if_next (nat_le (least_size m) value) (behind_size m value) Refused (λ least. behind_ok m value (leb-true (least_size m) value least) least_value) (λ _. tt))
    (λ some. let one : 1 ≤ due = grind (arith, nat_tests, some) in (one, few, wide, omega (arith, least_value, most_fits m), top)))
    (λ _. tt)

step_names : (p q : PathPlace) (b : ℕ) → p.names ≤ 63 → path_step p b ≡ Some q → q.names ≤ 63
step_names p q b few e = by_either (b == 47) e
  where
    by_either : (slash : Bool) → cond slash (behind_slash p) (behind_letter p b) ≡ Some q → q.names ≤ 63
    by_either true e' = let h = cond_found _ (name_start (p.names - 1)) q e' in subst (λ r. r.names ≤ 63) h.1 (omega (arith, few))
    by_either false e' =
        let h = and_then_found (nat_le 32 b && nat_lt p.len 255) _ q e' in
        let m = map_found (behind_byte p b) (char_step p.begun b) q h.1 in
        subst (λ r. r.names ≤ 63) m.2 few

path_ok : (p : PathPlace) (b left : ℕ) → left ≤ 4096 → p.names ≤ 63 → IsNext (path_next (path_step p b) left)
path_ok p b left most few = by_step (path_step p b) refl
  where
    by_step : (found : Option PathPlace) → path_step p b ≡ found → IsNext (path_next found left)
    by_step None is = tt
    by_step (Some q) is = if_next (can_end q left) (cond (left == 0) whole_field (on_field (Path q left))) Refused
        (λ can. if_next (left == 0) whole_field (on_field (Path q left)) (λ _. tt) (λ some. let one : 1 ≤ left = grind (arith, nat_tests, some) in (one, most, step_len p q b is, step_names p q b few is, can)))
        (λ _. tt)

chars_ok : (begun : Option Begun) (left : ℕ) → left ≤ 4096 → IsNext (text_next begun left)
chars_ok None left most = tt
chars_ok (Some begun) left most = if_next (nat_le (bytes_due begun) left) (cond (left == 0) whole_field (on_field (Text begun left))) Refused
    (λ due. if_next (left == 0) whole_field (on_field (Text begun left)) (λ _. tt) (λ some. let one : 1 ≤ left = grind (arith, nat_tests, some) in (one, most, leb-true (bytes_due begun) left due)))
    (λ _. tt)

pub step_ok : (field : FieldPlace) (byte : ℕ) → IsPlace field → IsNext (field_step field byte)
step_ok (Any count) byte ok = any_ok count ok.1
step_ok (AnyThenBit count) byte ok = bit_ok count byte ok
step_ok (Found w) byte ok = found_ok w byte
step_ok Done byte ok = done_ok byte
step_ok (Size m due value) byte ok = size_ok m (due - 1) (value * 256 + byte) (omega (arith, ok.1)) (omega (arith, ok.2))
step_ok (Path p left) byte ok = path_ok p byte (left - 1) (omega (arith, ok.1)) ok.3
step_ok (Text begun left) byte ok = chars_ok (char_step begun byte) (left - 1) (omega (arith, ok.1))

-- ---- a byte in a field

pub field_means : (field : FieldPlace) (b : Behind) (left byte : ℕ) → IsReached (Field field b left) → Means (step (Field field b left) byte) (λ bytes. (length bytes ≡ left - 1) × (option_and_then (behind_taken b) (taken (field_step field byte) bytes) ≡ Some []))
field_means field b left byte ok = in_field_means (field_step field byte) b (left - 1) (step_ok field byte ok.0) ok.1.0 (omega (arith, ok.1.1.0))

-- ---- the number of rows

-- a number of rows that can fill so many bytes
rows_between : (least most room : ℕ) → least ≤ most → 4 * least ≤ room → room ≤ 4356 * most → (room ≡ 0) ⊎ (4 ≤ room) → (rows : ℕ) × (least ≤ rows) × (rows ≤ most) × (4 * rows ≤ room) × (room ≤ 4356 * rows)
rows_between least most room range low high some =
    let q = (room + 4355) / 4356 in
    let rows = max least q in
    (rows, omega arith, omega (arith, range, high), elim some [ inl z ↦ omega (arith, low, z) | inr four ↦ omega (arith, low, four) ], omega arith)

-- as few rows as go into a message
value_small : (due value left : ℕ) → due ≤ 4 → left ≤ MAX_MESSAGE → can_count due value left ≡ true → value < 2 ^ 32
value_small due value left few fits_ can =
    let p1 = and_parts (nat_le due left) _ can in
    let p2 = and_parts (nat_le (4 * (value * worth due) + due) left) _ p1.1 in
    by_due due few (leb-true (4 * (value * worth due) + due) left p2.0)
  where
    by_due : (due : ℕ) → due ≤ 4 → 4 * (value * worth due) + due ≤ left → value < 2 ^ 32
    by_due zero few h = omega (arith, h, fits_)
    by_due (suc zero) few h = omega (arith, h, fits_)
    by_due (suc (suc zero)) few h = omega (arith, h, fits_)
    by_due (suc (suc (suc zero))) few h = omega (arith, h, fits_)
    by_due (suc (suc (suc (suc zero)))) few h = omega (arith, h, fits_)
    by_due (suc (suc (suc (suc (suc n))))) few h = absurd (omega (arith, few))

pub count_means : (due value left : ℕ) → due ≤ 4 → left ≤ MAX_MESSAGE → Means (in_count due value left) (λ bytes. (length bytes ≡ left) × (count_taken due value bytes ≡ Some []))
count_means due value left few fits_ = by_test (can_count due value left) refl
  where
    count_can : (bytes : List ℕ) → AreBytes bytes → length bytes ≡ left → count_taken due value bytes ≡ Some [] → can_count due value left ≡ true
    count_can bytes each len e =
        let found = and_then_found (nat_le due (length bytes)) (rows_taken (value_from value (take due bytes)) (drop due bytes)) [] e in
        let long : due ≤ length bytes = leb-true due (length bytes) found.0 in
        let rows = value_from value (take due bytes) in
        let front : length (take due bytes) ≡ due = length-take-le due bytes long in
        let w : worth due ≡ 256 ^ due = worth_is due (omega (arith, few)) in
        let from : value * worth due ≤ rows = subst (λ (p : ℕ). value * p ≤ rows) (sym w) (subst (λ (k : ℕ). value * 256 ^ k ≤ rows) front (value_from-least value (take due bytes))) in
        let to : rows < (value + 1) * worth due = subst (λ (p : ℕ). rows < (value + 1) * p) (sym w) (subst (λ (k : ℕ). rows < (value + 1) * 256 ^ k) front (value_from-most value (take due bytes) (bytes_front due bytes each))) in
        let sized = (rows_measures rows).fits (drop due bytes) [] (bytes_drop due bytes each) found.1 in
        let bounds : (4 * rows ≤ sized.0) × (sized.0 ≤ 4356 * rows) = elim sized.1 [ inl h ↦ (omega (arith, h), omega (arith, h)) | inr h ↦ h ] in
        let room : sized.0 + due ≡ left = omega (arith, sized.2, length-drop due bytes, long, len) in
        let t1 : nat_le due left ≡ true = le-leb due left (omega (arith, room)) in
        let t2 : nat_le (4 * (value * worth due) + due) left ≡ true = le-leb (4 * (value * worth due) + due) left (omega (arith, from, bounds.0, room)) in
        let t3 : nat_le left (4356 * ((value + 1) * worth due - 1) + due) ≡ true = le-leb left (4356 * ((value + 1) * worth due - 1) + due) (omega (arith, to, bounds.1, room)) in
        let t4 : (left == due || nat_le (due + 4) left) ≡ true = elim (eqb_tells rows 0) [
          | inl z ↦ let e0 : left ≡ due = omega (arith, z.1, bounds.1, room) in grind (arith, nat_tests, e0)
          | inr z ↦ let more : due + 4 ≤ left = omega (arith, z.1, bounds.0, room) in grind (arith, nat_tests, more)
        ] in
        rw (t1, t2, t3, t4) refl

    by_test : (test : Bool) → can_count due value left ≡ test → Means (cond test (cond (due == 0) (after (next_field (behind.Rows value)) left) (On (Count due value left))) Bad) (λ bytes. (length bytes ≡ left) × (count_taken due value bytes ≡ Some []))
    by_test false is = λ bytes each goes. absurd (let yes_ = count_can bytes each goes.0 goes.1 in cc)
    by_test true is = by_due due refl is (value_small due value left few fits_ is)
      where
        by_due : (k : ℕ) → k ≡ due → can_count due value left ≡ true → value < 2 ^ 32 → Means (cond (k == 0) (after (next_field (behind.Rows value)) left) (On (Count k value left))) (λ bytes. (length bytes ≡ left) × (count_taken k value bytes ≡ Some []))
        by_due zero e can small = means_along (after (next_field (behind.Rows value)) left) _ _ (λ bytes each h. (h.0, ap (λ t. cond t (rows_taken value bytes) None) (le_zero (length bytes)) ∙ h.1)) (λ bytes each h. (h.0, sym (ap (λ t. cond t (rows_taken value bytes) None) (le_zero (length bytes))) ∙ h.1)) (after_means (behind.Rows value) left (omega (arith, small)) fits_)
        by_due (suc k) e can small = subst (λ z. Means (cond z (after (next_field (behind.Rows value)) left) (On (Count (suc k) value left))) (λ bytes. (length bytes ≡ left) × (count_taken (suc k) value bytes ≡ Some []))) (sym (suc_zero k))
            ((omega arith, (omega (arith, few, e), (fits_, (small, subst (λ (n : ℕ). can_count n value left ≡ true) (sym e) can)))), ((λ bytes each rest. rest), (λ bytes each rest. rest)))

pub count_goes_on : (due value left : ℕ) → IsReached (Count due value left) → GoesOn (Count due value left)
count_goes_on due value left ok =
    let can = ok.1.1.1.1 in
    let p1 = and_parts (nat_le due left) _ can in
    let p2 = and_parts (nat_le (4 * (value * worth due) + due) left) _ p1.1 in
    let p3 = and_parts (nat_le left (4356 * ((value + 1) * worth due - 1) + due)) _ p2.1 in
    let h1 : due ≤ left = leb-true due left p1.0 in
    let h2 : 4 * (value * worth due) + due ≤ left = leb-true (4 * (value * worth due) + due) left p2.0 in
    let h3 : left ≤ 4356 * ((value + 1) * worth due - 1) + due = leb-true left (4356 * ((value + 1) * worth due - 1) + due) p3.0 in
    let some : (left - due ≡ 0) ⊎ (4 ≤ left - due) = either_of p3.1 in
    let w : worth due ≡ 256 ^ due = worth_is due ok.1.0 in
    let positive : 1 ≤ worth due = grind (arith, nat_tests) in
    let found = rows_between (value * worth due) ((value + 1) * worth due - 1) (left - due) (omega (arith, positive)) (omega (arith, h2, h1)) (omega (arith, h3, h1)) some in
    let digits = bytes_between due value found.0 (subst (λ (p : ℕ). value * p ≤ found.0) w found.1) (subst (λ (p : ℕ). found.0 < (value + 1) * p) w (omega (arith, found.2, positive))) in
    let rows = (rows_measures found.0).fills (left - due) (inr (found.3, found.4)) in
    let bytes = digits.0 ++ rows.0 in
    let total : length bytes ≡ left = omega (arith, length-append digits.0 rows.0, digits.1, rows.1, h1) in
    let front : take due bytes ≡ digits.0 = take_at digits.0 rows.0 due digits.1 in
    let back : drop due bytes ≡ rows.0 = drop_at digits.0 rows.0 due digits.1 in
    let long : nat_le due (length bytes) ≡ true = le-leb due (length bytes) (omega (arith, total, h1)) in
    record {
      bytes = bytes;
      each = AreBytes-append digits.0 rows.0 digits.2 rows.2;
      rest = (total, ap (λ t. cond t (rows_taken (value_from value (take due bytes)) (drop due bytes)) None) long ∙ ap (λ xs. rows_taken (value_from value xs) (drop due bytes)) front ∙ ap (λ (n : ℕ). rows_taken n (drop due bytes)) digits.3 ∙ ap (rows_taken found.0) back ∙ rows.3);
    }
  where
    either_of : (left == due || nat_le (due + 4) left) ≡ true → (left - due ≡ 0) ⊎ (4 ≤ left - due)
    either_of e = elim (eqb_tells left due) [
      | inl z ↦ inl (omega (arith, z.1))
      | inr z ↦ inr (let more : due + 4 ≤ left = grind (arith, nat_tests, e, z.0) in omega (arith, more))
    ]
