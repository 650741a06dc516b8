-- How many bytes a field can have: each number of its sizes, and no other.
use Rattle.std.proofs.Common.{◌≡◌, ℕ, zero, suc, ◌+◌, ◌-◌, ◌*◌, ◌<◌, ◌≤◌, ◌^◌, Bool, true, false, cond, ◌&&◌, List, [], ◌∷◌, ◌++◌, length, take, drop, refl, sym, ◌∙◌, ap, subst, arith, ◌⊎◌, inl, inr, Some, None, length-append, length-drop}
use Rattle.std.specs.Prelude.{Option, nat_le, max, min}
use Rattle.std.specs.Option.{option_map, option_and_then}
use Rattle.std.proofs.Math.Nat.{pow-succ'}
use Rattle.std.proofs.lemmas.Bool.{and_parts, leb-true, le-leb}
use Rattle.std.proofs.lemmas.Bool.Decides.{nat_tests}
use Rattle.std.proofs.lemmas.List.{length-take-le, take_at, drop_at, take_all, nil_from_length}
use Rattle.mux_frames.specs.Numbers.{value_from, AreBytes}
use Rattle.mux_frames.proofs.Digits.{AreBytes-append, value_from-least, value_from-most, bytes_between}
use Rattle.agent_proto.specs.declared.character.Begun.{Begun}
use Rattle.agent_proto.specs.declared.character.Begun.TheVariants.{Whole as whole_char}
use Rattle.agent_proto.specs.declared.path_place.PathPlace.{PathPlace}
use Rattle.agent_proto.specs.declared.field_place.Wanted.{Wanted}
use Rattle.agent_proto.specs.declared.field_place.Wanted.TheVariants as wanted
use Rattle.agent_proto.specs.declared.field_place.Measured.{Measured}
use Rattle.agent_proto.specs.declared.field_place.Measured.TheVariants as measured
use Rattle.agent_proto.specs.declared.field_place.FieldPlace.{FieldPlace}
use Rattle.agent_proto.specs.declared.field_place.FieldPlace.TheVariants.{Any, AnyThenBit, Found, Done, Size, Path, Text}
use Rattle.agent_proto.specs.declared.field_place.Next.{Next}
use Rattle.agent_proto.specs.declared.field_place.Next.TheVariants.{Refused, Whole, On}
use Rattle.agent_proto.specs.Characters.{char_step, is_whole, bytes_due, ends_whole}
use Rattle.agent_proto.specs.PathPlaces.{name_start, is_good_name, ends_path}
use Rattle.agent_proto.specs.FieldPlaces.{may_be_none, may_be_dir, may_be_link, may_be_other, least_size, most_size, some_bytes, behind_size, worth, found_step, done_step, taken, IsPlace}
use Rattle.agent_proto.specs.Reading.{bit_of, bit_in}
use Rattle.agent_proto.specs.Sizes.{Has, of_size, between, measured_sizes, found_sizes, field_sizes}
use Rattle.agent_proto.proofs.Comparisons.{suc_zero}
use Rattle.agent_proto.proofs.Found.{some_is, cond_found, and_then_found}
use Rattle.agent_proto.proofs.PathRoom.{room_of, CanEnd, reaches, onward, no_due}
use Rattle.agent_proto.proofs.FieldWalks.{left_of, front_left, front_if, any_taken, then_bit_taken, path_taken, text_taken, behind, size_taken, worth_is}
use Rattle.agent_proto.proofs.MeasuredWalks.{some_bytes_taken, bytes_front}

-- ---- what is left is shorter

left_len : (size : ℕ) (bytes rest : List ℕ) → front_left size bytes ≡ Some rest → size + length rest ≡ length bytes
left_len size bytes rest e =
    let found = cond_found (nat_le size (length bytes)) (drop size bytes) rest e in
    let fits : size ≤ length bytes = leb-true size (length bytes) found.0 in
    subst (λ (xs : List ℕ). size + length xs ≡ length bytes) found.1 (omega (arith, fits, length-drop size bytes))

if_len : (test : List ℕ → Bool) (size : ℕ) (bytes rest : List ℕ) → front_if test size bytes ≡ Some rest → size + length rest ≡ length bytes
if_len test size bytes rest e =
    let found = cond_found (nat_le size (length bytes) && test (take size bytes)) (drop size bytes) rest e in
    let fits : size ≤ length bytes = leb-true size (length bytes) (and_parts (nat_le size (length bytes)) (test (take size bytes)) found.0).0 in
    subst (λ (xs : List ℕ). size + length xs ≡ length bytes) found.1 (omega (arith, fits, length-drop size bytes))

bit_len : (bytes rest : List ℕ) → left_of (bit_in bytes) ≡ Some rest → 1 + length rest ≡ length bytes
bit_len [] rest e = absurd cc
bit_len (b ∷ bytes) rest e = by_bit (bit_of b) e
  where
    by_bit : (bit : Option Bool) → left_of (option_map (λ w. (w, bytes)) bit) ≡ Some rest → 1 + length rest ≡ suc (length bytes)
    by_bit None e' = absurd cc
    by_bit (Some bit) e' = let same : bytes ≡ rest = some_is bytes rest e' in omega (arith, ap length same)

pub then_found : {X : Type 0} (f : List ℕ → Option X) (o : Option (List ℕ)) (x : X) → option_and_then f o ≡ Some x → (mid : List ℕ) × (o ≡ Some mid) × (f mid ≡ Some x)
then_found f None x e = absurd cc
then_found f (Some mid) x e = (mid, refl, e)

-- ---- no other number

-- so many of the bytes are the field's
pub record Fits (field : FieldPlace) (bytes rest : List ℕ) : Type 0 where
  pub size : ℕ
  pub has : Has (field_sizes field) size
  pub sum : size + length rest ≡ length bytes

behind_len : (m : Measured) (size : ℕ) (bytes rest : List ℕ) → taken (behind_size m size) bytes ≡ Some rest → 1 ≤ size ⊎ (least_size m ≡ 0) → size + length rest ≡ length bytes
behind_len measured.Path zero bytes rest e some = let same : bytes ≡ rest = some_is bytes rest e in omega (arith, ap length same)
behind_len measured.Path (suc size) bytes rest e some =
    if_len (ends_path (Some (name_start 63))) (suc size) bytes rest
    (sym (ap (λ z. taken (cond z Whole (On (Path (name_start 63) (suc size)))) bytes) (suc_zero size) ∙ path_taken size (name_start 63) bytes) ∙ e)
behind_len measured.Name zero bytes rest e some = absurd (elim some [ inl h ↦ omega (arith, h) | inr h ↦ omega (arith, h) ])
behind_len measured.Name (suc size) bytes rest e some = if_len (ends_path (Some (name_start 0))) (suc size) bytes rest (sym (path_taken size (name_start 0) bytes) ∙ e)
behind_len measured.Text zero bytes rest e some = absurd (elim some [ inl h ↦ omega (arith, h) | inr h ↦ omega (arith, h) ])
behind_len measured.Text (suc size) bytes rest e some = if_len (ends_whole (Some whole_char)) (suc size) bytes rest (sym (text_taken size whole_char bytes) ∙ e)
behind_len measured.Bytes size bytes rest e some = left_len size bytes rest (sym (some_bytes_taken size bytes) ∙ e)
behind_len measured.Piece size bytes rest e some = left_len size bytes rest (sym (some_bytes_taken size bytes) ∙ e)

least_or_none : (m : Measured) (size : ℕ) → least_size m ≤ size → 1 ≤ size ⊎ (least_size m ≡ 0)
least_or_none measured.Path size h = inr refl
least_or_none measured.Name size h = inl h
least_or_none measured.Text size h = inl h
least_or_none measured.Bytes size h = inr refl
least_or_none measured.Piece size h = inr refl

size_fits : (m : Measured) (due value : ℕ) (bytes rest : List ℕ) → due ≤ 3 → AreBytes bytes → taken (On (Size m (suc due) value)) bytes ≡ Some rest → Fits (Size m (suc due) value) bytes rest
size_fits m due value bytes rest few each e =
    let n = suc due in
    let found = and_then_found (nat_le n (length bytes)) (behind m (value_from value (take n bytes)) (drop n bytes)) rest (sym (size_taken m due value bytes few) ∙ e) in
    let size = value_from value (take n bytes) in
    let inner = and_then_found (nat_le size (most_size m) && nat_le (least_size m) size) (taken (behind_size m size) (drop n bytes)) rest found.1 in
    let tests = and_parts (nat_le size (most_size m)) (nat_le (least_size m) size) inner.0 in
    let most : size ≤ most_size m = leb-true size (most_size m) tests.0 in
    let least : least_size m ≤ size = leb-true (least_size m) size tests.1 in
    let fits : n ≤ length bytes = leb-true n (length bytes) found.0 in
    let len : length (take n bytes) ≡ n = length-take-le n bytes fits in
    let from : value * 256 ^ length (take n bytes) ≤ size = value_from-least value (take n bytes) in
    let to : size < (value + 1) * 256 ^ length (take n bytes) = value_from-most value (take n bytes) (bytes_front n bytes each) in
    let w : worth n ≡ 256 ^ n = worth_is n (omega (arith, few)) in
    let from' : value * worth n ≤ size = subst (λ (p : ℕ). value * p ≤ size) (sym w) (subst (λ (k : ℕ). value * 256 ^ k ≤ size) len from) in
    let to' : size < (value + 1) * worth n = subst (λ (p : ℕ). size < (value + 1) * p) (sym w) (subst (λ (k : ℕ). size < (value + 1) * 256 ^ k) len to) in
    let rest_len : size + length rest ≡ length (drop n bytes) = behind_len m size (drop n bytes) rest inner.1 (least_or_none m size least) in
    record {
      size = n + size;
      has = inr (omega (arith, least, from'), omega (arith, most, to'));
      sum = omega (arith, rest_len, length-drop n bytes, fits);
    }

-- which entries may have these sizes
abbrev not_file : Wanted → Bool
not_file wanted.File = false
not_file _ = true

has_found : (w : Wanted) (n : ℕ) → not_file w ≡ true → (n ≡ 1) ⊎ ((4 ≤ n) × (n ≤ 4099)) → Has (found_sizes w) n
has_found wanted.Any n e h = h
has_found wanted.There n e h = h
has_found wanted.Replaced n e h = h
has_found wanted.Tracked n e h = h
has_found wanted.File n e h = absurd cc

has_file : (w : Wanted) → Has (found_sizes w) 18
has_file wanted.Any = inr (omega arith, omega arith)
has_file wanted.There = inr (omega arith, omega arith)
has_file wanted.Replaced = inr (omega arith, omega arith)
has_file wanted.Tracked = inr (omega arith, omega arith)
has_file wanted.File = inl refl

none_no_file : (w : Wanted) → may_be_none w ≡ true → not_file w ≡ true
none_no_file wanted.Any e = refl
none_no_file wanted.There e = refl
none_no_file wanted.Replaced e = refl
none_no_file wanted.Tracked e = refl
none_no_file wanted.File e = absurd cc

dir_no_file : (w : Wanted) → may_be_dir w ≡ true → not_file w ≡ true
dir_no_file wanted.Any e = refl
dir_no_file wanted.There e = refl
dir_no_file wanted.Replaced e = refl
dir_no_file wanted.Tracked e = refl
dir_no_file wanted.File e = absurd cc

link_no_file : (w : Wanted) → may_be_link w ≡ true → not_file w ≡ true
link_no_file wanted.Any e = refl
link_no_file wanted.There e = refl
link_no_file wanted.Replaced e = refl
link_no_file wanted.Tracked e = refl
link_no_file wanted.File e = absurd cc

other_no_file : (w : Wanted) → may_be_other w ≡ true → not_file w ≡ true
other_no_file wanted.Any e = refl
other_no_file wanted.There e = refl
other_no_file wanted.Replaced e = refl
other_no_file wanted.Tracked e = refl
other_no_file wanted.File e = absurd cc

-- one byte is the field
one_fits : (w : Wanted) (b : ℕ) (bytes rest : List ℕ) (may : Bool) → (may ≡ true → not_file w ≡ true) → taken (cond may Whole Refused) bytes ≡ Some rest → Fits (Found w) (b ∷ bytes) rest
one_fits w b bytes rest true free e =
    let same : bytes ≡ rest = some_is bytes rest e in
    record { size = 1; has = has_found w 1 (free refl) (inl refl); sum = omega (arith, ap length same) }
one_fits w b bytes rest false free e = absurd cc

bit_fits : (count : ℕ) (bytes rest : List ℕ) → taken (On (AnyThenBit count)) bytes ≡ Some rest → (count + 1) + length rest ≡ length bytes
bit_fits count bytes rest e =
    let found = then_found (λ xs. left_of (bit_in xs)) (front_left count bytes) rest (sym (then_bit_taken count bytes) ∙ e) in
    omega (arith, left_len count bytes found.0 found.1, bit_len found.0 rest found.2)

link_fits : (w : Wanted) (bytes rest : List ℕ) (may : Bool) → (may ≡ true → not_file w ≡ true) → AreBytes bytes → taken (cond may (On (Size measured.Text 2 0)) Refused) bytes ≡ Some rest → Fits (Found w) (3 ∷ bytes) rest
link_fits w bytes rest true free each e =
    let text = size_fits measured.Text 1 0 bytes rest (omega arith) each e in
    let range : (3 ≤ text.size) × (text.size ≤ 4098) = elim text.has [ inl h ↦ (omega (arith, h), omega (arith, h)) | inr h ↦ (omega (arith, h.0), omega (arith, h.1)) ] in
    record { size = suc text.size; has = has_found w (suc text.size) (free refl) (inr (omega (arith, range.0), omega (arith, range.1))); sum = omega (arith, text.sum) }
link_fits w bytes rest false free each e = absurd cc

found_fits : (w : Wanted) (bytes rest : List ℕ) → AreBytes bytes → taken (On (Found w)) bytes ≡ Some rest → Fits (Found w) bytes rest
found_fits w [] rest each e = absurd cc
found_fits w (zero ∷ bytes) rest each e = one_fits w 0 bytes rest (may_be_none w) (none_no_file w) e
found_fits w (suc zero ∷ bytes) rest each e = one_fits w 1 bytes rest (may_be_dir w) (dir_no_file w) e
found_fits w (suc (suc zero) ∷ bytes) rest each e =
    record { size = 18; has = has_file w; sum = omega (arith, bit_fits 16 bytes rest e) }
found_fits w (suc (suc (suc zero)) ∷ bytes) rest each e = link_fits w bytes rest (may_be_link w) (link_no_file w) each.1 e
found_fits w (suc (suc (suc (suc zero))) ∷ bytes) rest each e = one_fits w 4 bytes rest (may_be_other w) (other_no_file w) e
found_fits w (suc (suc (suc (suc (suc n)))) ∷ bytes) rest each e =
    let refused : found_step w (suc (suc (suc (suc (suc n))))) ≡ Refused = grind (arith, nat_tests) in
    let none : taken (found_step w (suc (suc (suc (suc (suc n)))))) bytes ≡ None = ap (λ x. taken x bytes) refused in
    absurd cc

done_fits : (bytes rest : List ℕ) → taken (On Done) bytes ≡ Some rest → Fits Done bytes rest
done_fits [] rest e = absurd cc
done_fits (zero ∷ bytes) rest e = let same : bytes ≡ rest = some_is bytes rest e in record { size = 1; has = inl refl; sum = omega (arith, ap length same) }
done_fits (suc zero ∷ bytes) rest e = record { size = 17; has = inr (omega arith, omega arith); sum = omega (arith, left_len 16 bytes rest (sym (any_taken 15 bytes) ∙ e)) }
done_fits (suc (suc n) ∷ bytes) rest e =
    let refused : done_step (suc (suc n)) ≡ Refused = grind (arith, nat_tests) in
    let none : taken (done_step (suc (suc n))) bytes ≡ None = ap (λ x. taken x bytes) refused in
    absurd cc

pub fits : (field : FieldPlace) (bytes rest : List ℕ) → IsPlace field → AreBytes bytes → taken (On field) bytes ≡ Some rest → Fits field bytes rest
fits (Any zero) bytes rest ok each e = absurd (omega (arith, ok.0))
fits (Any (suc count)) bytes rest ok each e = record { size = suc count; has = inl refl; sum = left_len (suc count) bytes rest (sym (any_taken count bytes) ∙ e) }
fits (AnyThenBit count) bytes rest ok each e = record { size = count + 1; has = inl refl; sum = bit_fits count bytes rest e }
fits (Found w) bytes rest ok each e = found_fits w bytes rest each e
fits Done bytes rest ok each e = done_fits bytes rest e
fits (Size m zero value) bytes rest ok each e = absurd (omega (arith, ok.0))
fits (Size m (suc due) value) bytes rest ok each e = size_fits m due value bytes rest (omega (arith, ok.1)) each e
fits (Path p zero) bytes rest ok each e = absurd (omega (arith, ok.0))
fits (Path p (suc left)) bytes rest ok each e = record { size = suc left; has = inl refl; sum = if_len (ends_path (Some p)) (suc left) bytes rest (sym (path_taken left p bytes) ∙ e) }
fits (Text begun zero) bytes rest ok each e = absurd (omega (arith, ok.0))
fits (Text begun (suc left)) bytes rest ok each e = record { size = suc left; has = inl refl; sum = if_len (ends_whole (Some begun)) (suc left) bytes rest (sym (text_taken left begun bytes) ∙ e) }

-- ---- each number

abbrev zeros : ℕ → List ℕ
zeros zero = []
zeros (suc n) = 0 ∷ zeros n

zeros_len : (n : ℕ) → length (zeros n) ≡ n
zeros_len zero = refl
zeros_len (suc n) = ap suc (zeros_len n)

zeros_bytes : (n : ℕ) → AreBytes (zeros n)
zeros_bytes zero = tt
zeros_bytes (suc n) = (omega arith, zeros_bytes n)

none_left : (bytes : List ℕ) (size : ℕ) → length bytes ≡ size → drop size bytes ≡ []
none_left bytes size len = nil_from_length (drop size bytes) (omega (arith, length-drop size bytes, len))

all_left : (bytes : List ℕ) (size : ℕ) → length bytes ≡ size → front_left size bytes ≡ Some []
all_left bytes size len =
    let test : nat_le size (length bytes) ≡ true = le-leb size (length bytes) (omega (arith, len)) in
    ap (λ t. cond t (Some (drop size bytes)) None) test ∙ ap Some (none_left bytes size len)

if_all : (test : List ℕ → Bool) (bytes : List ℕ) (size : ℕ) → length bytes ≡ size → test bytes ≡ true → front_if test size bytes ≡ Some []
if_all test bytes size len passes =
    let whole : take size bytes ≡ bytes = take_all size bytes (omega (arith, len)) in
    let fits_ : nat_le size (length bytes) ≡ true = le-leb size (length bytes) (omega (arith, len)) in
    let test_is : (nat_le size (length bytes) && test (take size bytes)) ≡ true = rw (fits_, whole) passes in
    ap (λ t. cond t (Some (drop size bytes)) None) test_is ∙ ap Some (none_left bytes size len)

-- bytes of this number that something takes to the last
pub record Filled (next : Next) (size : ℕ) : Type 0 where
  pub bytes : List ℕ
  pub len : length bytes ≡ size
  pub each : AreBytes bytes
  pub is : taken next bytes ≡ Some []

-- bytes behind a text's first ones, to the end of a character
record EndsText (begun : Begun) (left : ℕ) : Type 0 where
  bytes : List ℕ
  len : length bytes ≡ left
  each : AreBytes bytes
  ends : ends_whole (Some begun) bytes ≡ true

text_reaches : (left : ℕ) (begun : Begun) → bytes_due begun ≤ left → EndsText begun left
text_reaches zero begun due = record { bytes = []; len = refl; each = tt; ends = ap is_whole (no_due begun (omega (arith, due))) }
text_reaches (suc left) begun due = elim (onward begun) [
  | inl whole ↦
      let rest = text_reaches left whole_char (omega arith) in
      let step : char_step begun 0 ≡ Some whole_char = ap (λ t. char_step t 0) whole in
      record { bytes = 0 ∷ rest.bytes; len = ap suc rest.len; each = (omega arith, rest.each); ends = ap (λ o. ends_whole o rest.bytes) step ∙ rest.ends }
  | inr o ↦
      let rest = text_reaches left o.then (omega (arith, due, o.due)) in
      record { bytes = o.byte ∷ rest.bytes; len = ap suc rest.len; each = (o.small, rest.each); ends = ap (λ x. ends_whole x rest.bytes) o.is ∙ rest.ends }
]

pub start_room : (names left : ℕ) → 1 ≤ left → left ≤ 255 + 256 * names → CanEnd (name_start names) left
start_room names left some fits_ = record {
  due_in = omega arith;
  len_in = omega arith;
  total = omega (arith, fits_);
  last = λ e z. absurd (omega (arith, e, some));
  next = λ l e. absurd (omega (arith, e));
}

path_fills : (p : PathPlace) (left : ℕ) → p.len ≤ 255 → CanEnd p (suc left) → Filled (On (Path p (suc left))) (suc left)
path_fills p left short room =
    let found = reaches (suc left) p short room in
    record { bytes = found.bytes; len = found.len; each = found.each; is = path_taken left p found.bytes ∙ if_all (ends_path (Some p)) found.bytes (suc left) found.len found.ends }

text_fills : (begun : Begun) (left : ℕ) → bytes_due begun ≤ suc left → Filled (On (Text begun (suc left))) (suc left)
text_fills begun left due =
    let found = text_reaches (suc left) begun due in
    record { bytes = found.bytes; len = found.len; each = found.each; is = text_taken left begun found.bytes ∙ if_all (ends_whole (Some begun)) found.bytes (suc left) found.len found.ends }

some_bytes_fills : (size : ℕ) → Filled (some_bytes size) size
some_bytes_fills size = record { bytes = zeros size; len = zeros_len size; each = zeros_bytes size; is = some_bytes_taken size (zeros size) ∙ all_left (zeros size) size (zeros_len size) }

behind_fills : (m : Measured) (size : ℕ) → least_size m ≤ size → size ≤ most_size m → Filled (behind_size m size) size
behind_fills measured.Path zero least most = record { bytes = []; len = refl; each = tt; is = refl }
behind_fills measured.Path (suc size) least most =
    subst (λ z. Filled (cond z Whole (On (Path (name_start 63) (suc size)))) (suc size)) (sym (suc_zero size)) (path_fills (name_start 63) size (omega arith) (start_room 63 (suc size) (omega arith) (omega (arith, most))))
behind_fills measured.Name zero least most = absurd (omega (arith, least))
behind_fills measured.Name (suc size) least most = path_fills (name_start 0) size (omega arith) (start_room 0 (suc size) (omega arith) (omega (arith, most)))
behind_fills measured.Text zero least most = absurd (omega (arith, least))
behind_fills measured.Text (suc size) least most = text_fills whole_char size (omega arith)
behind_fills measured.Bytes size least most = some_bytes_fills size
behind_fills measured.Piece size least most = some_bytes_fills size

pow_grows : (due : ℕ) → 256 ≤ 256 ^ suc due
pow_grows zero = omega arith
pow_grows (suc due) = let e : 256 ^ suc (suc due) ≡ 256 * 256 ^ suc due = pow-succ' 256 (suc due) in omega (arith, e, pow_grows due)

least_small : (m : Measured) → least_size m ≤ 1
least_small measured.Path = omega arith
least_small measured.Name = omega arith
least_small measured.Text = omega arith
least_small measured.Bytes = omega arith
least_small measured.Piece = omega arith

most_large : (m : Measured) → 1 ≤ most_size m
most_large measured.Path = omega arith
most_large measured.Name = omega arith
most_large measured.Text = omega arith
most_large measured.Bytes = omega arith
most_large measured.Piece = omega arith

size_fills : (m : Measured) (due value n : ℕ) → due ≤ 3 → value * 256 ^ suc due ≤ most_size m → Has (measured_sizes m (suc due) value) n → Filled (On (Size m (suc due) value)) n
size_fills m due value n few fits_ has =
    let p = 256 ^ suc due in
    let w : worth (suc due) ≡ p = worth_is (suc due) (omega (arith, few)) in
    let here : Has (between (suc due + max (least_size m) (value * p)) (suc due + min (most_size m) ((value + 1) * p - 1))) n = subst (λ (q : ℕ). Has (between (suc due + max (least_size m) (value * q)) (suc due + min (most_size m) ((value + 1) * q - 1))) n) w has in
    let wide : value * p + 256 ≤ (value + 1) * p = omega (arith, pow_grows due) in
    let range : (suc due + max (least_size m) (value * p) ≤ n) × (n ≤ suc due + min (most_size m) ((value + 1) * p - 1)) = elim here [
      | inl h ↦ (omega (arith, h), omega (arith, h, wide, fits_, least_small m, most_large m))
      | inr h ↦ (h.0, h.1)
    ] in
    let size = n - suc due in
    let digits = bytes_between (suc due) value size (omega (arith, range.0)) (omega (arith, range.0, range.1, wide)) in
    let text = behind_fills m size (omega (arith, range.0)) (omega (arith, range.0, range.1)) in
    let bytes = digits.0 ++ text.bytes in
    let total : length bytes ≡ n = omega (arith, length-append digits.0 text.bytes, digits.1, text.len, range.0) in
    let front : take (suc due) bytes ≡ digits.0 = take_at digits.0 text.bytes (suc due) digits.1 in
    let back : drop (suc due) bytes ≡ text.bytes = drop_at digits.0 text.bytes (suc due) digits.1 in
    let value_is : value_from value (take (suc due) bytes) ≡ size = ap (value_from value) front ∙ digits.3 in
    let long : nat_le (suc due) (length bytes) ≡ true = le-leb (suc due) (length bytes) (omega (arith, total, range.0)) in
    let high : nat_le size (most_size m) ≡ true = le-leb size (most_size m) (omega (arith, range.0, range.1)) in
    let low : nat_le (least_size m) size ≡ true = le-leb (least_size m) size (omega (arith, range.0)) in
    let taken_text : behind m size text.bytes ≡ Some [] = rw (high, low) text.is in
    record {
      bytes = bytes;
      len = total;
      each = AreBytes-append digits.0 text.bytes digits.2 text.each;
      is = size_taken m due value bytes few
          ∙ ap (λ t. cond t (behind m (value_from value (take (suc due) bytes)) (drop (suc due) bytes)) None) long
          ∙ ap (λ (k : ℕ). behind m k (drop (suc due) bytes)) value_is ∙ ap (λ xs. behind m size xs) back ∙ taken_text;
    }

bit_fills : (count : ℕ) → taken (On (AnyThenBit count)) (zeros (suc count)) ≡ Some []
bit_fills zero = refl
bit_fills (suc count) =
    let one_less : suc count - 1 ≡ count = omega arith in
    ap (λ z. taken (cond z (cond (nat_le 0 1) Whole Refused) (On (AnyThenBit (suc count - 1)))) (zeros (suc count))) (suc_zero count)
    ∙ ap (λ (n : ℕ). taken (On (AnyThenBit n)) (zeros (suc count))) one_less ∙ bit_fills count

-- behind a byte
byte_fills : (w : Wanted) (b size : ℕ) (next : Next) → b < 256 → found_step w b ≡ next → Filled next size → Filled (On (Found w)) (suc size)
byte_fills w b size next small step rest = record { bytes = b ∷ rest.bytes; len = ap suc rest.len; each = (small, rest.each); is = ap (λ x. taken x rest.bytes) step ∙ rest.is }

whole_filled : Filled Whole 0
whole_filled = record { bytes = []; len = refl; each = tt; is = refl }

link_filled : (n : ℕ) → 4 ≤ n → n ≤ 4099 → Filled (On (Size measured.Text 2 0)) (n - 1)
link_filled n low high = size_fills measured.Text 1 0 (n - 1) (omega arith) (omega arith) (inr (omega (arith, low), omega (arith, high, low)))

long_found : (w : Wanted) (n : ℕ) → 4 ≤ n → n ≤ 4099 → found_step w 3 ≡ On (Size measured.Text 2 0) → Filled (On (Found w)) n
long_found w n low high step =
    let all : suc (n - 1) ≡ n = omega (arith, low) in
    subst (λ (k : ℕ). Filled (On (Found w)) k) all (byte_fills w 3 (n - 1) (On (Size measured.Text 2 0)) (omega arith) step (link_filled n low high))

short_found : (w : Wanted) (b n : ℕ) → b < 256 → found_step w b ≡ Whole → n ≡ 1 → Filled (On (Found w)) n
short_found w b n small step one = subst (λ (k : ℕ). Filled (On (Found w)) k) (sym one) (byte_fills w b 0 Whole small step whole_filled)

found_fills : (w : Wanted) (n : ℕ) → Has (found_sizes w) n → Filled (On (Found w)) n
found_fills wanted.Any n (inl h) = short_found wanted.Any 0 n (omega arith) refl h
found_fills wanted.Any n (inr h) = long_found wanted.Any n h.0 h.1 refl
found_fills wanted.There n (inl h) = short_found wanted.There 1 n (omega arith) refl h
found_fills wanted.There n (inr h) = long_found wanted.There n h.0 h.1 refl
found_fills wanted.Replaced n (inl h) = short_found wanted.Replaced 0 n (omega arith) refl h
found_fills wanted.Replaced n (inr h) = long_found wanted.Replaced n h.0 h.1 refl
found_fills wanted.Tracked n (inl h) = short_found wanted.Tracked 1 n (omega arith) refl h
found_fills wanted.Tracked n (inr h) = long_found wanted.Tracked n h.0 h.1 refl
found_fills wanted.File n has =
    let all : n ≡ 18 = elim has [ inl h ↦ h | inr h ↦ omega (arith, h.0, h.1) ] in
    let bit : Filled (On (AnyThenBit 16)) 17 = record { bytes = zeros 17; len = zeros_len 17; each = zeros_bytes 17; is = bit_fills 16 } in
    subst (λ (k : ℕ). Filled (On (Found wanted.File)) k) (sym all) (byte_fills wanted.File 2 17 (On (AnyThenBit 16)) (omega arith) refl bit)

any_fills : (count : ℕ) → Filled (On (Any (suc count))) (suc count)
any_fills count = record { bytes = zeros (suc count); len = zeros_len (suc count); each = zeros_bytes (suc count); is = any_taken count (zeros (suc count)) ∙ all_left (zeros (suc count)) (suc count) (zeros_len (suc count)) }

done_fills : (n : ℕ) → Has (field_sizes Done) n → Filled (On Done) n
done_fills n (inl h) = subst (λ (k : ℕ). Filled (On Done) k) (sym h) (record { bytes = 0 ∷ []; len = refl; each = (omega arith, tt); is = refl })
done_fills n (inr h) =
    let all : n ≡ 17 = omega (arith, h.0, h.1) in
    let rest = any_fills 15 in
    subst (λ (k : ℕ). Filled (On Done) k) (sym all) (record { bytes = 1 ∷ rest.bytes; len = ap suc rest.len; each = (omega arith, rest.each); is = rest.is })

same_size : (k n : ℕ) → Has (of_size k) n → k ≡ n
same_size k n (inl h) = sym h
same_size k n (inr h) = omega (arith, h.0, h.1)

pub fills : (field : FieldPlace) (n : ℕ) → IsPlace field → Has (field_sizes field) n → Filled (On field) n
fills (Any zero) n ok has = absurd (omega (arith, ok.0))
fills (Any (suc count)) n ok has = subst (λ (k : ℕ). Filled (On (Any (suc count))) k) (same_size (suc count) n has) (any_fills count)
fills (AnyThenBit count) n ok has =
    let all : suc count ≡ n = omega (arith, same_size (count + 1) n has) in
    subst (λ (k : ℕ). Filled (On (AnyThenBit count)) k) all (record { bytes = zeros (suc count); len = zeros_len (suc count); each = zeros_bytes (suc count); is = bit_fills count })
fills (Found w) n ok has = found_fills w n has
fills Done n ok has = done_fills n has
fills (Size m zero value) n ok has = absurd (omega (arith, ok.0))
fills (Size m (suc due) value) n ok has = size_fills m due value n (omega (arith, ok.1)) (subst (λ (p : ℕ). value * p ≤ most_size m) (worth_is (suc due) ok.1) ok.4) has
fills (Path p zero) n ok has = absurd (omega (arith, ok.0))
fills (Path p (suc left)) n ok has = subst (λ (k : ℕ). Filled (On (Path p (suc left))) k) (same_size (suc left) n has) (path_fills p left ok.2 (room_of (bytes_due p.begun) p.len (suc left) p.names (is_good_name p) ok.4))
fills (Text begun zero) n ok has = absurd (omega (arith, ok.0))
fills (Text begun (suc left)) n ok has = subst (λ (k : ℕ). Filled (On (Text begun (suc left))) k) (same_size (suc left) n has) (text_fills begun left ok.2)
