-- What the walk over a field's bytes leaves behind it is what the field's reader leaves.
use Rattle.std.proofs.Common.{◌≡◌, ℕ, zero, suc, ◌+◌, ◌-◌, ◌*◌, ◌<◌, ◌≤◌, ◌^◌, Bool, true, false, cond, ◌&&◌, List, [], ◌∷◌, length, take, drop, refl, sym, ◌∙◌, ap, subst, arith, inl, inr, Some, None, eqb}
use Rattle.std.specs.Prelude.{Option, nat_le, ◌==◌}
use Rattle.std.specs.Option.{option_map, option_and_then}
use Rattle.std.proofs.lemmas.Bool.{ne_eqb}
use Rattle.std.proofs.lemmas.Bool.Decides.{nat_tests, leb_tells}
use Rattle.std.proofs.lemmas.List.{length-take-le}
use Rattle.mux_frames.specs.Numbers.{value, value_from}
use Rattle.mux_frames.proofs.Digits.{value_from-least}
use Rattle.entry_tree.specs.Entry.{is_tracked}
use Rattle.entry_tree.specs.declared.entry.Entry.{Entry}
use Rattle.entry_tree.specs.declared.entry.Entry.TheVariants.{Dir, File, Link, Other}
use Rattle.entry_tree.specs.declared.entry.Stamp.{Stamp}
use Rattle.roots_api.specs.Expected.{is_file}
use Rattle.agent_proto.specs.declared.character.Begun.{Begun}
use Rattle.agent_proto.specs.declared.path_place.PathPlace.{PathPlace}
use Rattle.agent_proto.specs.declared.field_place.Wanted.{Wanted}
use Rattle.agent_proto.specs.declared.field_place.Wanted.TheVariants as wanted
use Rattle.agent_proto.specs.declared.field_place.Measured.{Measured}
use Rattle.agent_proto.specs.declared.field_place.Measured.TheVariants as measured
use Rattle.agent_proto.specs.declared.field_place.FieldPlace.TheVariants.{Any, AnyThenBit, Found, Done, Size, Path, Text}
use Rattle.agent_proto.specs.declared.field_place.Next.{Next}
use Rattle.agent_proto.specs.declared.field_place.Next.TheVariants.{Refused, Whole, On}
use Rattle.agent_proto.specs.Characters.{char_step, is_whole, bytes_due, ends_whole}
use Rattle.agent_proto.specs.PathPlaces.{is_good_name, is_name_end, path_step, ends_path, can_end}
use Rattle.agent_proto.specs.FieldPlaces.{may_be_none, may_be_dir, may_be_link, may_be_other, least_size, most_size, worth, behind_size, size_step, whole_if, link_if, found_step, done_step, path_next, text_next, taken}
use Rattle.agent_proto.specs.Messages.{may_be_replaced}
use Rattle.agent_proto.specs.Reading.{mapped, made, both, front_in, number_in, bit_of, bit_in, stamp_of, stamp_in, text_in, found_by, found_in, entry_by, replaced_by, done_by, done_in}
use Rattle.agent_proto.proofs.Comparisons.{le_suc, le_none, le_zero, suc_zero}
use Rattle.agent_proto.proofs.PathRoom.{room_of, has_room_of, CanEnd, within, step_len, no_due, step_due, whole_is}

-- ---- what a reader leaves

abbrev pub left_of : {V : Type 0} → Option (V × List ℕ) → Option (List ℕ)
left_of read = option_map (λ p. p.1) read

pub left_mapped : {V W : Type 0} (f : V → W) (read : Option (V × List ℕ)) → left_of (mapped f read) ≡ left_of read
left_mapped f None = refl
left_mapped f (Some p) = refl

pub left_both : {V W : Type 0} (a : List ℕ → Option (V × List ℕ)) (b : List ℕ → Option (W × List ℕ)) (bytes : List ℕ) → left_of (both a b bytes) ≡ option_and_then (λ rest. left_of (b rest)) (left_of (a bytes))
left_both {V} {W} a b bytes = by_first (a bytes)
  where
    by_second : (v : V) (second : Option (W × List ℕ)) → left_of {V = V × W} (option_map (λ (q : W × List ℕ). ((v, q.0), q.1)) second) ≡ left_of second
    by_second v None = refl
    by_second v (Some q) = refl

    by_first : (first : Option (V × List ℕ)) → left_of {V = V × W} (option_and_then (λ (p : V × List ℕ). option_map (λ (q : W × List ℕ). ((p.0, q.0), q.1)) (b p.1)) first) ≡ option_and_then (λ rest. left_of (b rest)) (left_of first)
    by_first None = refl
    by_first (Some p) = by_second p.0 (b p.1)

-- what is left behind so many bytes
abbrev pub front_left : ℕ → List ℕ → Option (List ℕ)
front_left size bytes = cond (nat_le size (length bytes)) (Some (drop size bytes)) None

pub left_front : (size : ℕ) (bytes : List ℕ) → left_of (front_in size bytes) ≡ front_left size bytes
left_front size bytes = by_test (nat_le size (length bytes))
  where
    by_test : (test : Bool) → left_of (cond test (Some (take size bytes, drop size bytes)) None) ≡ cond test (Some (drop size bytes)) None
    by_test true = refl
    by_test false = refl

-- ---- tests

pub front_none : (size : ℕ) → front_left (suc size) [] ≡ None
front_none size = ap (λ t. cond t (Some (drop (suc size) [])) None) (le_none size)

pub front_some : (size b : ℕ) (bytes : List ℕ) → front_left (suc size) (b ∷ bytes) ≡ front_left size bytes
front_some size b bytes = ap (λ t. cond t (Some (drop size bytes)) None) (le_suc size (length bytes))

pub front_all : (bytes : List ℕ) → front_left 0 bytes ≡ Some bytes
front_all bytes = ap (λ t. cond t (Some bytes) None) (le_zero (length bytes))

-- ---- bytes

pub any_taken : (count : ℕ) (bytes : List ℕ) → taken (On (Any (suc count))) bytes ≡ front_left (suc count) bytes
any_taken count [] = sym (front_none count)
any_taken zero (b ∷ bytes) = sym (front_some 0 b bytes ∙ front_all bytes)
any_taken (suc count) (b ∷ bytes) =
    let many : nat_le (suc (suc count)) 1 ≡ false = grind (arith, nat_tests) in
    let one_less : suc (suc count) - 1 ≡ suc count = omega arith in
    ap (λ t. taken (cond t Whole (On (Any (suc (suc count) - 1)))) bytes) many ∙ ap (λ (n : ℕ). taken (On (Any n)) bytes) one_less ∙ any_taken count bytes ∙ sym (front_some (suc count) b bytes)

-- ---- bits

no_bit : (n : ℕ) → bit_of (suc (suc n)) ≡ None
no_bit n =
    let zeroth : eqb (suc (suc n)) 0 ≡ false = ne_eqb (suc (suc n)) 0 (λ e. absurd (omega (arith, e))) in
    let first : eqb (suc (suc n)) 1 ≡ false = ne_eqb (suc (suc n)) 1 (λ e. absurd (omega (arith, e))) in
    rw (zeroth, first) refl

bit_taken : (bytes : List ℕ) → taken (On (AnyThenBit 0)) bytes ≡ left_of (bit_in bytes)
bit_taken [] = refl
bit_taken (zero ∷ bytes) = refl
bit_taken (suc zero ∷ bytes) = refl
bit_taken (suc (suc n) ∷ bytes) =
    let high : nat_le (suc (suc n)) 1 ≡ false = grind (arith, nat_tests) in
    ap (λ t. taken (cond t Whole Refused) bytes) high ∙ sym (ap (λ o. left_of (option_map (λ w. (w, bytes)) o)) (no_bit n))

pub then_bit_taken : (count : ℕ) (bytes : List ℕ) → taken (On (AnyThenBit count)) bytes ≡ option_and_then (λ rest. left_of (bit_in rest)) (front_left count bytes)
then_bit_taken zero bytes = bit_taken bytes ∙ sym (ap (option_and_then (λ rest. left_of (bit_in rest))) (front_all bytes))
then_bit_taken (suc count) [] = sym (ap (option_and_then (λ rest. left_of (bit_in rest))) (front_none count))
then_bit_taken (suc count) (b ∷ bytes) =
    let one_less : suc count - 1 ≡ count = omega arith in
    ap (λ t. taken (cond t (cond (nat_le b 1) Whole Refused) (On (AnyThenBit (suc count - 1)))) bytes) (suc_zero count)
    ∙ ap (λ (n : ℕ). taken (On (AnyThenBit n)) bytes) one_less ∙ then_bit_taken count bytes ∙ sym (ap (option_and_then (λ rest. left_of (bit_in rest))) (front_some count b bytes))

-- ---- texts

cond_false : {X : Type 0} (test : Bool) (x y : X) → test ≡ false → cond test x y ≡ y
cond_false test x y e = ap (λ t. cond t x y) e

and_false_all : (a b : Bool) → b ≡ false → a && b ≡ false
and_false_all true b e = e
and_false_all false b e = refl

pub same_bool : (a b : Bool) → (a ≡ true → b ≡ true) → (b ≡ true → a ≡ true) → a ≡ b
same_bool true true to from = refl
same_bool true false to from = sym (to refl)
same_bool false true to from = from refl
same_bool false false to from = refl

-- the text of so many bytes at the front passes the test
abbrev pub front_if : (List ℕ → Bool) → ℕ → List ℕ → Option (List ℕ)
front_if test size bytes = cond (nat_le size (length bytes) && test (take size bytes)) (Some (drop size bytes)) None

not_all : (bytes : List ℕ) (test : List ℕ → Bool) (size : ℕ) → (length (take size bytes) ≡ size → test (take size bytes) ≡ false) → front_if test size bytes ≡ None
not_all bytes test size fails = elim (leb_tells size (length bytes)) [
  | inl p ↦ cond_false (nat_le size (length bytes) && test (take size bytes)) (Some (drop size bytes)) None (and_false_all (nat_le size (length bytes)) (test (take size bytes)) (fails (length-take-le size bytes p.1)))
  | inr p ↦ ap (λ t. cond (t && test (take size bytes)) (Some (drop size bytes)) None) p.0
]

front_if_some : (test : List ℕ → Bool) (size b : ℕ) (bytes : List ℕ) → front_if test (suc size) (b ∷ bytes) ≡ front_if (λ xs. test (b ∷ xs)) size bytes
front_if_some test size b bytes = ap (λ t. cond (t && test (b ∷ take size bytes)) (Some (drop size bytes)) None) (le_suc size (length bytes))

front_if_none : (test : List ℕ → Bool) (size : ℕ) → front_if test (suc size) [] ≡ None
front_if_none test size = ap (λ t. cond (t && test (take (suc size) [])) (Some (drop (suc size) [])) None) (le_none size)

-- a place at which the path may end
ends_there : (p : PathPlace) → can_end p 0 ≡ true → is_name_end p ≡ true
ends_there p can =
    let room : CanEnd p 0 = room_of (bytes_due p.begun) p.len 0 p.names (is_good_name p) can in
    let none : bytes_due p.begun ≡ 0 = omega (arith, room.due_in) in
    let whole : is_whole p.begun ≡ true = ap is_whole (no_due p.begun none) in
    let good : is_good_name p ≡ true = room.last (sym none) none in
    rw (whole, good) refl

pub path_taken : (size : ℕ) (p : PathPlace) (bytes : List ℕ) → taken (On (Path p (suc size))) bytes ≡ front_if (ends_path (Some p)) (suc size) bytes
path_taken size p [] = sym (front_if_none (ends_path (Some p)) size)
path_taken size p (b ∷ bytes) =
    let one_less : suc size - 1 ≡ size = omega arith in
    ap (λ (n : ℕ). taken (path_next (path_step p b) n) bytes) one_less ∙ by_step (path_step p b) refl (λ k q. path_taken k q bytes) ∙ sym (front_if_some (ends_path (Some p)) size b bytes)
  where
    by_left : (n : ℕ) (q : PathPlace) → q.len ≤ 255 → can_end q n ≡ true → ((k : ℕ) → suc k ≡ n → taken (On (Path q (suc k))) bytes ≡ front_if (ends_path (Some q)) (suc k) bytes)
        → taken (cond (n == 0) Whole (On (Path q n))) bytes ≡ front_if (ends_path (Some q)) n bytes
    by_left zero q short can later =
        let test : (nat_le 0 (length bytes) && ends_path (Some q) []) ≡ true = rw (le_zero (length bytes), ends_there q can) refl in
        sym (ap (λ t. cond t (Some bytes) None) test)
    by_left (suc k) q short can later = ap (λ t. taken (cond t Whole (On (Path q (suc k)))) bytes) (suc_zero k) ∙ later k refl

    by_can : (n : ℕ) (q : PathPlace) (can : Bool) → q.len ≤ 255 → can_end q n ≡ can → ((k : ℕ) → suc k ≡ n → taken (On (Path q (suc k))) bytes ≡ front_if (ends_path (Some q)) (suc k) bytes)
        → taken (cond can (cond (n == 0) Whole (On (Path q n))) Refused) bytes ≡ front_if (ends_path (Some q)) n bytes
    by_can n q true short is later = by_left n q short is later
    by_can n q false short is later = sym (not_all bytes (ends_path (Some q)) n (λ len.
        same_bool (ends_path (Some q) (take n bytes)) false (λ ends.
        let room = within (take n bytes) q short ends in
        let can : can_end q n ≡ true = subst (λ (k : ℕ). can_end q k ≡ true) len (has_room_of (bytes_due q.begun) q.len (length (take n bytes)) q.names (is_good_name q) room) in
        sym is ∙ can) (λ e. absurd cc)))

    by_step : (found : Option PathPlace) → path_step p b ≡ found → ((k : ℕ) (q : PathPlace) → taken (On (Path q (suc k))) bytes ≡ front_if (ends_path (Some q)) (suc k) bytes)
        → taken (path_next found size) bytes ≡ front_if (λ xs. ends_path found xs) size bytes
    by_step None is later = sym (not_all bytes (λ xs. false) size (λ len. refl))
    by_step (Some q) is later = by_can size q (can_end q size) (step_len p q b is) refl (λ k e. later k q)

-- the same of a link's text
pub text_within : (bytes : List ℕ) (begun : Begun) → ends_whole (Some begun) bytes ≡ true → bytes_due begun ≤ length bytes
text_within [] begun e = let w = ap bytes_due (whole_is begun e) in omega (arith, w)
text_within (b ∷ bytes) begun e = by_step (char_step begun b) refl e (text_within bytes)
  where
    by_step : (found : Option Begun) → char_step begun b ≡ found → ends_whole found bytes ≡ true → ((t : Begun) → ends_whole (Some t) bytes ≡ true → bytes_due t ≤ length bytes) → bytes_due begun ≤ suc (length bytes)
    by_step None is e' later = absurd cc
    by_step (Some t) is e' later =
        let rest = later t e' in
        elim (step_due begun t b is) [
          | inl w ↦ let h = ap bytes_due w in omega (arith, h)
          | inr d ↦ omega (arith, d, rest)
        ]

pub text_taken : (size : ℕ) (begun : Begun) (bytes : List ℕ) → taken (On (Text begun (suc size))) bytes ≡ front_if (ends_whole (Some begun)) (suc size) bytes
text_taken size begun [] = sym (front_if_none (ends_whole (Some begun)) size)
text_taken size begun (b ∷ bytes) =
    let one_less : suc size - 1 ≡ size = omega arith in
    ap (λ (n : ℕ). taken (text_next (char_step begun b) n) bytes) one_less ∙ by_step (char_step begun b) (λ k t. text_taken k t bytes) ∙ sym (front_if_some (ends_whole (Some begun)) size b bytes)
  where
    by_left : (n : ℕ) (t : Begun) → nat_le (bytes_due t) n ≡ true → ((k : ℕ) → taken (On (Text t (suc k))) bytes ≡ front_if (ends_whole (Some t)) (suc k) bytes)
        → taken (cond (n == 0) Whole (On (Text t n))) bytes ≡ front_if (ends_whole (Some t)) n bytes
    by_left zero t can later =
        let none : bytes_due t ≡ 0 = grind (arith, nat_tests, can) in
        let whole : is_whole t ≡ true = ap is_whole (no_due t none) in
        let test : (nat_le 0 (length bytes) && is_whole t) ≡ true = rw (le_zero (length bytes), whole) refl in
        sym (ap (λ x. cond x (Some bytes) None) test)
    by_left (suc k) t can later = ap (λ z. taken (cond z Whole (On (Text t (suc k)))) bytes) (suc_zero k) ∙ later k

    by_can : (n : ℕ) (t : Begun) (can : Bool) → nat_le (bytes_due t) n ≡ can → ((k : ℕ) → taken (On (Text t (suc k))) bytes ≡ front_if (ends_whole (Some t)) (suc k) bytes)
        → taken (cond can (cond (n == 0) Whole (On (Text t n))) Refused) bytes ≡ front_if (ends_whole (Some t)) n bytes
    by_can n t true is later = by_left n t is later
    by_can n t false is later = sym (not_all bytes (ends_whole (Some t)) n (λ len.
        same_bool (ends_whole (Some t) (take n bytes)) false (λ ends.
        let due : bytes_due t ≤ n = subst (λ (k : ℕ). bytes_due t ≤ k) len (text_within (take n bytes) t ends) in
        let can : nat_le (bytes_due t) n ≡ true = grind (arith, nat_tests, due) in
        sym is ∙ can) (λ e. absurd cc)))

    by_step : (found : Option Begun) → ((k : ℕ) (t : Begun) → taken (On (Text t (suc k))) bytes ≡ front_if (ends_whole (Some t)) (suc k) bytes)
        → taken (text_next found size) bytes ≡ front_if (λ xs. ends_whole found xs) size bytes
    by_step None later = sym (not_all bytes (λ xs. false) size (λ len. refl))
    by_step (Some t) later = by_can size t (nat_le (bytes_due t) size) refl (λ k. later k t)

-- ---- lengths

pub worth_is : (due : ℕ) → due ≤ 4 → worth due ≡ 256 ^ due
worth_is zero few = refl
worth_is (suc zero) few = refl
worth_is (suc (suc zero)) few = refl
worth_is (suc (suc (suc zero))) few = refl
worth_is (suc (suc (suc (suc zero)))) few = refl
worth_is (suc (suc (suc (suc (suc n))))) few = absurd (omega (arith, few))

-- what is left behind what is as long as was said
abbrev pub behind : Measured → ℕ → List ℕ → Option (List ℕ)
behind m size bytes = cond (nat_le size (most_size m) && nat_le (least_size m) size) (taken (behind_size m size) bytes) None

-- the same, behind so many bytes of the length
abbrev pub behind_digits : Measured → ℕ → ℕ → List ℕ → Option (List ℕ)
behind_digits m due value bytes = cond (nat_le due (length bytes)) (behind m (value_from value (take due bytes)) (drop due bytes)) None

two_tests : (a b : Bool) (next : Next) (bytes : List ℕ) → taken (cond a (cond b next Refused) Refused) bytes ≡ cond (a && b) (taken next bytes) None
two_tests true true next bytes = refl
two_tests true false next bytes = refl
two_tests false b next bytes = refl

too_high : (m : Measured) (due value : ℕ) (bytes : List ℕ) → due ≤ 3 → most_size m < value * worth due → behind_digits m due value bytes ≡ None
too_high m due value bytes few high = elim (leb_tells due (length bytes)) [
  | inr p ↦ ap (λ t. cond t (behind m (value_from value (take due bytes)) (drop due bytes)) None) p.0
  | inl p ↦
      let len : length (take due bytes) ≡ due = length-take-le due bytes p.1 in
      let least : value * 256 ^ length (take due bytes) ≤ value_from value (take due bytes) = value_from-least value (take due bytes) in
      let same : value * 256 ^ length (take due bytes) ≡ value * worth due = ap (λ (n : ℕ). value * 256 ^ n) len ∙ ap (λ (n : ℕ). value * n) (sym (worth_is due (omega (arith, few)))) in
      let over : most_size m < value_from value (take due bytes) = omega (arith, least, same, high) in
      let test : nat_le (value_from value (take due bytes)) (most_size m) ≡ false = grind (arith, nat_tests, over) in
      ap (λ t. cond t (behind m (value_from value (take due bytes)) (drop due bytes)) None) p.0
      ∙ ap (λ t. cond (t && nat_le (least_size m) (value_from value (take due bytes))) (taken (behind_size m (value_from value (take due bytes))) (drop due bytes)) None) test
]

size_next : (m : Measured) (due value : ℕ) (bytes : List ℕ) → due ≤ 3 → ((k : ℕ) → suc k ≡ due → taken (On (Size m (suc k) value)) bytes ≡ behind_digits m (suc k) value bytes)
    → taken (size_step m due value) bytes ≡ behind_digits m due value bytes
size_next m zero value bytes few later =
    let one : value * worth 0 ≡ value = omega arith in
    ap (λ (n : ℕ). taken (cond (nat_le n (most_size m)) (cond (nat_le (least_size m) value) (behind_size m value) Refused) Refused) bytes) one
    ∙ two_tests (nat_le value (most_size m)) (nat_le (least_size m) value) (behind_size m value) bytes
    ∙ sym (ap (λ t. cond t (behind m value bytes) None) (le_zero (length bytes)))
size_next m (suc due) value bytes few later =
    let high = nat_le (value * worth (suc due)) (most_size m) in
    let whole : size_step m (suc due) value ≡ cond high (On (Size m (suc due) value)) Refused =
    ap (λ z. cond high (cond z (cond (nat_le (least_size m) value) (behind_size m value) Refused) (On (Size m (suc due) value))) Refused) (suc_zero due) in
    ap (λ x. taken x bytes) whole ∙ (elim (leb_tells (value * worth (suc due)) (most_size m)) [
      | inl p ↦ ap (λ t. taken (cond t (On (Size m (suc due) value)) Refused) bytes) p.0 ∙ later due refl
      | inr p ↦ ap (λ t. taken (cond t (On (Size m (suc due) value)) Refused) bytes) p.0 ∙ sym (too_high m (suc due) value bytes few p.1)
    ])

pub size_taken : (m : Measured) (due value : ℕ) (bytes : List ℕ) → due ≤ 3 → taken (On (Size m (suc due) value)) bytes ≡ behind_digits m (suc due) value bytes
size_taken m due value [] few = sym (ap (λ t. cond t (behind m (value_from value (take (suc due) [])) (drop (suc due) [])) None) (le_none due))
size_taken m due value (b ∷ bytes) few =
    let one_less : suc due - 1 ≡ due = omega arith in
    ap (λ (n : ℕ). taken (size_step m n (value * 256 + b)) bytes) one_less
    ∙ size_next m due (value * 256 + b) bytes few (λ k e. size_taken m k (value * 256 + b) bytes (omega (arith, few, e)))
    ∙ sym (ap (λ t. cond t (behind m (value_from (value * 256 + b) (take due bytes)) (drop due bytes)) None) (le_suc due (length bytes)))

-- ---- entries

-- which entries pass
abbrev pub passes : Wanted → Option Entry → Bool
passes wanted.Any found = true
passes wanted.There None = false
passes wanted.There (Some entry) = true
passes wanted.Replaced found = may_be_replaced found
passes wanted.Tracked None = false
passes wanted.Tracked (Some entry) = is_tracked entry
passes wanted.File None = false
passes wanted.File (Some entry) = is_file entry

-- what is left where the value passes a test
abbrev pub left_if : {V : Type 0} → (V → Bool) → Option (V × List ℕ) → Option (List ℕ)
left_if test read = option_and_then (λ p. cond (test p.0) (Some p.1) None) read

cond_left : {X : Type 0} (test : Bool) (x : X) (rest : List ℕ) → left_of (option_map (λ w. (w, rest)) (cond test (Some x) None)) ≡ cond test (Some rest) None
cond_left true x rest = refl
cond_left false x rest = refl

pub any_left : (read : Option (Option Entry × List ℕ)) → left_of read ≡ left_if (passes wanted.Any) read
any_left None = refl
any_left (Some p) = refl

pub there_left : (read : Option (Option Entry × List ℕ)) → left_of (made (entry_by (λ entry. true)) read) ≡ left_if (passes wanted.There) read
there_left None = refl
there_left (Some (None, rest)) = refl
there_left (Some (Some entry, rest)) = refl

pub replaced_left : (read : Option (Option Entry × List ℕ)) → left_of (made replaced_by read) ≡ left_if (passes wanted.Replaced) read
replaced_left None = refl
replaced_left (Some (None, rest)) = refl
replaced_left (Some (Some entry, rest)) = cond_left (may_be_replaced (Some entry)) (Some entry) rest

pub tracked_left : (read : Option (Option Entry × List ℕ)) → left_of (made (entry_by is_tracked) read) ≡ left_if (passes wanted.Tracked) read
tracked_left None = refl
tracked_left (Some (None, rest)) = refl
tracked_left (Some (Some entry, rest)) = cond_left (is_tracked entry) entry rest

pub file_left : (read : Option (Option Entry × List ℕ)) → left_of (made (entry_by is_file) read) ≡ left_if (passes wanted.File) read
file_left None = refl
file_left (Some (None, rest)) = refl
file_left (Some (Some entry, rest)) = cond_left (is_file entry) entry rest

none_passes : (w : Wanted) → passes w None ≡ may_be_none w
none_passes wanted.Any = refl
none_passes wanted.There = refl
none_passes wanted.Replaced = refl
none_passes wanted.Tracked = refl
none_passes wanted.File = refl

dir_passes : (w : Wanted) → passes w (Some Dir) ≡ may_be_dir w
dir_passes wanted.Any = refl
dir_passes wanted.There = refl
dir_passes wanted.Replaced = refl
dir_passes wanted.Tracked = refl
dir_passes wanted.File = refl

link_passes : (w : Wanted) (text : List ℕ) → passes w (Some (Link text)) ≡ may_be_link w
link_passes wanted.Any text = refl
link_passes wanted.There text = refl
link_passes wanted.Replaced text = refl
link_passes wanted.Tracked text = refl
link_passes wanted.File text = refl

other_passes : (w : Wanted) → passes w (Some Other) ≡ may_be_other w
other_passes wanted.Any = refl
other_passes wanted.There = refl
other_passes wanted.Replaced = refl
other_passes wanted.Tracked = refl
other_passes wanted.File = refl

whole_if_taken : (may : Bool) (bytes : List ℕ) → taken (whole_if may) bytes ≡ cond may (Some bytes) None
whole_if_taken true bytes = refl
whole_if_taken false bytes = refl

link_if_taken : (may : Bool) (bytes : List ℕ) → taken (link_if may) bytes ≡ cond may (taken (On (Size measured.Text 2 0)) bytes) None
link_if_taken true bytes = refl
link_if_taken false bytes = refl

-- a file passes everywhere
file_left_if : (w : Wanted) (read : Option ((Stamp × Bool) × List ℕ)) → left_if (passes w) (mapped (λ file. Some (File file.0 file.1)) read) ≡ left_of read
file_left_if w None = refl
file_left_if wanted.Any (Some p) = refl
file_left_if wanted.There (Some p) = refl
file_left_if wanted.Replaced (Some p) = refl
file_left_if wanted.Tracked (Some p) = refl
file_left_if wanted.File (Some p) = refl

link_left_if : (w : Wanted) (read : Option (List ℕ × List ℕ)) → left_if (passes w) (mapped (λ text. Some (Link text)) read) ≡ cond (may_be_link w) (left_of read) None
link_left_if w None = none (may_be_link w)
  where
    none : (b : Bool) → ◌≡◌ {A = Option (List ℕ)} None (cond b None None)
    none true = refl
    none false = refl
link_left_if w (Some p) = ap (λ t. cond t (Some p.1) None) (link_passes w p.0)

-- the stamp of a file, and its bit
file_taken : (bytes : List ℕ) → taken (On (AnyThenBit 16)) bytes ≡ left_of (both stamp_in bit_in bytes)
file_taken bytes =
    then_bit_taken 16 bytes
    ∙ sym (ap (option_and_then (λ rest. left_of (bit_in rest))) (left_mapped stamp_of (number_in 16 bytes) ∙ left_mapped value (front_in 16 bytes) ∙ left_front 16 bytes))
    ∙ sym (left_both stamp_in bit_in bytes)

no_found : (n : ℕ) (bytes : List ℕ) → found_by (suc (suc (suc (suc (suc n))))) bytes ≡ None
no_found n bytes =
    let b = suc (suc (suc (suc (suc n)))) in
    let e0 : eqb b 0 ≡ false = ne_eqb b 0 (λ e. absurd (omega (arith, e))) in
    let e1 : eqb b 1 ≡ false = ne_eqb b 1 (λ e. absurd (omega (arith, e))) in
    let e2 : eqb b 2 ≡ false = ne_eqb b 2 (λ e. absurd (omega (arith, e))) in
    let e3 : eqb b 3 ≡ false = ne_eqb b 3 (λ e. absurd (omega (arith, e))) in
    let e4 : eqb b 4 ≡ false = ne_eqb b 4 (λ e. absurd (omega (arith, e))) in
    rw (e0, e1, e2, e3, e4) refl

no_step : (w : Wanted) (n : ℕ) → found_step w (suc (suc (suc (suc (suc n))))) ≡ Refused
no_step w n =
    let b = suc (suc (suc (suc (suc n)))) in
    let e0 : eqb b 0 ≡ false = ne_eqb b 0 (λ e. absurd (omega (arith, e))) in
    let e1 : eqb b 1 ≡ false = ne_eqb b 1 (λ e. absurd (omega (arith, e))) in
    let e2 : eqb b 2 ≡ false = ne_eqb b 2 (λ e. absurd (omega (arith, e))) in
    let e3 : eqb b 3 ≡ false = ne_eqb b 3 (λ e. absurd (omega (arith, e))) in
    let e4 : eqb b 4 ≡ false = ne_eqb b 4 (λ e. absurd (omega (arith, e))) in
    rw (e0, e1, e2, e3, e4) refl

-- what is left behind an entry that passes; `link` says what is left behind a link's text
pub found_taken : (w : Wanted) (bytes : List ℕ) → ((rest : List ℕ) → taken (On (Size measured.Text 2 0)) rest ≡ left_of (text_in rest)) → taken (On (Found w)) bytes ≡ left_if (passes w) (found_in bytes)
found_taken w [] link = refl
found_taken w (zero ∷ bytes) link = whole_if_taken (may_be_none w) bytes ∙ ap (λ t. cond t (Some bytes) None) (sym (none_passes w))
found_taken w (suc zero ∷ bytes) link = whole_if_taken (may_be_dir w) bytes ∙ ap (λ t. cond t (Some bytes) None) (sym (dir_passes w))
found_taken w (suc (suc zero) ∷ bytes) link = file_taken bytes ∙ sym (file_left_if w (both stamp_in bit_in bytes))
found_taken w (suc (suc (suc zero)) ∷ bytes) link =
    link_if_taken (may_be_link w) bytes ∙ ap (λ (o : Option (List ℕ)). cond (may_be_link w) o None) (link bytes) ∙ sym (link_left_if w (text_in bytes))
found_taken w (suc (suc (suc (suc zero))) ∷ bytes) link = whole_if_taken (may_be_other w) bytes ∙ ap (λ t. cond t (Some bytes) None) (sym (other_passes w))
found_taken w (suc (suc (suc (suc (suc n)))) ∷ bytes) link = ap (λ x. taken x bytes) (no_step w n) ∙ sym (ap (λ o. left_if (passes w) o) (no_found n bytes))

-- ---- a stamp, or none

pub done_taken : (bytes : List ℕ) → taken (On Done) bytes ≡ left_of (done_in bytes)
done_taken [] = refl
done_taken (zero ∷ bytes) = refl
done_taken (suc zero ∷ bytes) =
    any_taken 15 bytes ∙ sym (left_mapped Some (stamp_in bytes) ∙ left_mapped stamp_of (number_in 16 bytes) ∙ left_mapped value (front_in 16 bytes) ∙ left_front 16 bytes)
done_taken (suc (suc n) ∷ bytes) =
    let b = suc (suc n) in
    let e0 : eqb b 0 ≡ false = ne_eqb b 0 (λ e. absurd (omega (arith, e))) in
    let e1 : eqb b 1 ≡ false = ne_eqb b 1 (λ e. absurd (omega (arith, e))) in
    let step : done_step b ≡ Refused = rw (e0, e1) refl in
    let none : done_by b bytes ≡ None = rw (e0, e1) refl in
    ap (λ x. taken x bytes) step ∙ sym (ap (λ o. left_of o) none)
