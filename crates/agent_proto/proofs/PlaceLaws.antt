-- A byte more: what goes on behind it, and that nothing does where it is bad.
use Rattle.std.proofs.Common.{◌≡◌, ℕ, zero, suc, ◌+◌, ◌-◌, ◌*◌, ◌<◌, ◌≤◌, ◌^◌, Bool, true, false, cond, List, [], ◌++◌, length, refl, sym, ◌∙◌, ap, subst, arith, Some, None, length-append}
use Rattle.std.specs.Prelude.{Option, ◌==◌, max, min, ⊤}
use Rattle.std.specs.Option.{option_and_then}
use Rattle.std.proofs.lemmas.Bool.Decides.{nat_tests}
use Rattle.mux_frames.specs.Numbers.{AreBytes}
use Rattle.mux_frames.proofs.Digits.{AreBytes-append}
use Rattle.agent_proto.specs.declared.behind.Behind.{Behind}
use Rattle.agent_proto.specs.declared.behind.Behind.TheVariants as behind
use Rattle.agent_proto.specs.declared.kind.Request.TheVariants as requests
use Rattle.agent_proto.specs.declared.field_place.Wanted.TheVariants as wanted
use Rattle.agent_proto.specs.declared.field_place.Measured.{Measured}
use Rattle.agent_proto.specs.declared.field_place.Measured.TheVariants as measured
use Rattle.agent_proto.specs.declared.field_place.FieldPlace.{FieldPlace}
use Rattle.agent_proto.specs.declared.field_place.FieldPlace.TheVariants.{Any, AnyThenBit, Found, Done, Size, Path, Text}
use Rattle.agent_proto.specs.declared.field_place.Next.{Next}
use Rattle.agent_proto.specs.declared.field_place.Next.TheVariants.{Refused, Whole as whole_field, On as on_field}
use Rattle.agent_proto.specs.declared.limits.TheConstants.{MAX_MESSAGE}
use Rattle.agent_proto.specs.declared.place.Place.{Place}
use Rattle.agent_proto.specs.declared.place.Place.TheVariants.{Field}
use Rattle.agent_proto.specs.declared.place.Step.{Step}
use Rattle.agent_proto.specs.declared.place.Step.TheVariants.{Bad, Whole, On}
use Rattle.agent_proto.specs.FieldPlaces.{least_size, most_size, worth, taken, IsPlace}
use Rattle.agent_proto.specs.Behinds.{next_field, then_taken, behind_taken, behind_sizes, AreFew}
use Rattle.agent_proto.specs.Places.{start, whole_if_none, after, in_field, IsRest, IsReached, IsNext}
use Rattle.agent_proto.specs.Sizes.{field_sizes, meets}
use Rattle.agent_proto.proofs.Found.{some_is}
use Rattle.agent_proto.proofs.Sums.{IsRange, of_meet, meet_of}
use Rattle.agent_proto.proofs.FieldSizes.{fits, fills, then_found}
use Rattle.agent_proto.proofs.BehindSizes.{bytes_left, taken_append, behind_measures}

-- ---- what a step says of the bytes that are to come

-- the bytes that go on behind a byte are those that go on from where it led
abbrev pub Means : Step → (List ℕ → Type 0) → Type 0
Means Bad goes = (bytes : List ℕ) → AreBytes bytes → goes bytes → ⊥
Means Whole goes = goes [] × ((bytes : List ℕ) → AreBytes bytes → goes bytes → bytes ≡ [])
Means (On place) goes = IsReached place × (((bytes : List ℕ) → AreBytes bytes → IsRest place bytes → goes bytes) × ((bytes : List ℕ) → AreBytes bytes → goes bytes → IsRest place bytes))

-- the rest of a field, and what is behind it, of so many bytes
abbrev FieldRest : FieldPlace → Behind → ℕ → List ℕ → Type 0
FieldRest field b left bytes = (length bytes ≡ left) × (then_taken field (behind_taken b) bytes ≡ Some [])

field_meets : (field : FieldPlace) (b : Behind) (left : ℕ) (bytes : List ℕ) → IsPlace field → AreBytes bytes → FieldRest field b left bytes → meets (field_sizes field) (behind_sizes b) left ≡ true
field_meets field b left bytes ok each rest =
    let found = then_found (behind_taken b) (taken (on_field field) bytes) [] rest.1 in
    let first = fits field bytes found.0 ok each found.1 in
    let second = (behind_measures b).fits found.0 [] (bytes_left (on_field field) bytes found.0 each found.1) found.2 in
    let a = first.sum in
    of_meet (field_sizes field) (behind_sizes b) left (record { first = first.size; second = second.0; has_first = first.has; has_second = second.1; sum = omega (arith, a, second.2, rest.0) })

pub start_means : (field : FieldPlace) (b : Behind) (left : ℕ) → IsPlace field → AreFew b → left ≤ MAX_MESSAGE → Means (start field b left) (FieldRest field b left)
start_means field b left ok few fits_ = by_test (meets (field_sizes field) (behind_sizes b) left) refl
  where
    by_test : (test : Bool) → meets (field_sizes field) (behind_sizes b) left ≡ test → Means (cond test (On (Field field b left)) Bad) (FieldRest field b left)
    by_test true is = ((ok, (few, (fits_, is))), ((λ bytes each rest. rest), (λ bytes each rest. rest)))
    by_test false is = λ bytes each rest. absurd (let yes_ = field_meets field b left bytes ok each rest in cc)

-- ---- behind a field

abbrev walk_next : Option (FieldPlace × Behind) → List ℕ → Option (List ℕ)
walk_next None bytes = Some bytes
walk_next (Some next) bytes = then_taken next.0 (behind_taken next.1) bytes

next_is : (b : Behind) (bytes : List ℕ) → behind_taken b bytes ≡ walk_next (next_field b) bytes
next_is behind.Nothing bytes = refl
next_is behind.Bit bytes = refl
next_is behind.Replaced bytes = refl
next_is behind.Tracked bytes = refl
next_is behind.FileBit bytes = refl
next_is behind.Stamped bytes = refl
next_is behind.BitReplaced bytes = refl
next_is behind.Placed bytes = refl
next_is behind.Linked bytes = refl
next_is (behind.Asked requests.List) bytes = refl
next_is (behind.Asked requests.Fetch) bytes = refl
next_is (behind.Asked requests.StageClear) bytes = refl
next_is (behind.Asked requests.StageOpen) bytes = refl
next_is (behind.Asked requests.StageAppend) bytes = refl
next_is (behind.Asked requests.StageKeep) bytes = refl
next_is (behind.Asked requests.Place) bytes = refl
next_is (behind.Asked requests.MakeDir) bytes = refl
next_is (behind.Asked requests.MakeLink) bytes = refl
next_is (behind.Asked requests.Remove) bytes = refl
next_is (behind.Asked requests.SetExec) bytes = refl
next_is (behind.Entry rows) bytes = refl
next_is (behind.Rows zero) bytes = refl
next_is (behind.Rows (suc rows)) bytes =
    let some : (suc rows == 0) ≡ false = grind (arith, nat_tests) in
    let one_less : suc rows - 1 ≡ rows = omega arith in
    sym (ap (λ t. walk_next (cond t None (Some (Size measured.Name 2 0, behind.Entry (suc rows - 1)))) bytes) some ∙ ap (λ (n : ℕ). walk_next (Some (Size measured.Name 2 0, behind.Entry n)) bytes) one_less)

abbrev pub IsNextField : Option (FieldPlace × Behind) → Type 0
IsNextField None = ⊤
IsNextField (Some next) = IsPlace next.0 × AreFew next.1

pub next_ok : (b : Behind) → AreFew b → IsNextField (next_field b)
next_ok behind.Nothing few = tt
next_ok behind.Bit few = (omega arith, tt)
next_ok behind.Replaced few = (tt, tt)
next_ok behind.Tracked few = (tt, tt)
next_ok behind.FileBit few = (tt, tt)
next_ok behind.Stamped few = ((omega arith, omega arith), tt)
next_ok behind.BitReplaced few = (omega arith, tt)
next_ok behind.Placed few = ((omega arith, omega arith), tt)
next_ok behind.Linked few = ((omega arith, omega arith, omega arith, omega arith, omega arith), tt)
next_ok (behind.Asked requests.List) few = ((omega arith, omega arith, omega arith, omega arith, omega arith), tt)
next_ok (behind.Asked requests.Fetch) few = ((omega arith, omega arith, omega arith, omega arith, omega arith), tt)
next_ok (behind.Asked requests.StageClear) few = tt
next_ok (behind.Asked requests.StageOpen) few = tt
next_ok (behind.Asked requests.StageAppend) few = ((omega arith, omega arith, omega arith, omega arith, omega arith), tt)
next_ok (behind.Asked requests.StageKeep) few = ((omega arith, omega arith), tt)
next_ok (behind.Asked requests.Place) few = ((omega arith, omega arith, omega arith, omega arith, omega arith), tt)
next_ok (behind.Asked requests.MakeDir) few = ((omega arith, omega arith, omega arith, omega arith, omega arith), tt)
next_ok (behind.Asked requests.MakeLink) few = ((omega arith, omega arith, omega arith, omega arith, omega arith), tt)
next_ok (behind.Asked requests.Remove) few = ((omega arith, omega arith, omega arith, omega arith, omega arith), tt)
next_ok (behind.Asked requests.SetExec) few = ((omega arith, omega arith, omega arith, omega arith, omega arith), tt)
next_ok (behind.Entry rows) few = (tt, few)
next_ok (behind.Rows rows) few = by_test (rows == 0) few
  where
    by_test : (test : Bool) → rows < 2 ^ 40 → IsNextField (cond test None (Some (Size measured.Name 2 0, behind.Entry (rows - 1))))
    by_test true h = tt
    by_test false h = ((omega arith, omega arith, omega arith, omega arith, omega arith), omega (arith, h))

abbrev BehindRest : Behind → ℕ → List ℕ → Type 0
BehindRest b left bytes = (length bytes ≡ left) × (behind_taken b bytes ≡ Some [])

-- the same of another way to say what goes on
pub means_along : (step : Step) (a b : List ℕ → Type 0) → ((bytes : List ℕ) → AreBytes bytes → a bytes → b bytes) → ((bytes : List ℕ) → AreBytes bytes → b bytes → a bytes) → Means step a → Means step b
means_along Bad a b to from m = λ bytes each goes. m bytes each (from bytes each goes)
means_along Whole a b to from m = (to [] tt m.0, λ bytes each goes. m.1 bytes each (from bytes each goes))
means_along (On place) a b to from m = (m.0, ((λ bytes each rest. to bytes each (m.1.0 bytes each rest)), (λ bytes each goes. m.1.1 bytes each (from bytes each goes))))

pub none_means : (left : ℕ) → Means (whole_if_none left) (λ bytes. (length bytes ≡ left) × (◌≡◌ {A = Option (List ℕ)} (Some bytes) (Some [])))
none_means zero = ((refl, refl), λ bytes each goes. some_is bytes [] goes.1)
none_means (suc left) =
    let some : (suc left == 0) ≡ false = grind (arith, nat_tests) in
    subst (λ t. Means (cond t Whole Bad) (λ bytes. (length bytes ≡ suc left) × (◌≡◌ {A = Option (List ℕ)} (Some bytes) (Some [])))) (sym some)
    (λ bytes each goes. let none : bytes ≡ [] = some_is bytes [] goes.1 in absurd (omega (arith, ap length none, goes.0)))

pub after_means : (b : Behind) (left : ℕ) → AreFew b → left ≤ MAX_MESSAGE → Means (after (next_field b) left) (BehindRest b left)
after_means b left few fits_ = by_next (next_field b) refl (next_ok b few)
  where
    by_next : (next : Option (FieldPlace × Behind)) → next_field b ≡ next → IsNextField next → Means (after next left) (BehindRest b left)
    by_next None is ok = means_along (whole_if_none left) (λ bytes. (length bytes ≡ left) × (◌≡◌ {A = Option (List ℕ)} (Some bytes) (Some []))) (BehindRest b left)
        (λ bytes each h. (h.0, next_is b bytes ∙ ap (λ n. walk_next n bytes) is ∙ h.1))
        (λ bytes each h. (h.0, sym (next_is b bytes ∙ ap (λ n. walk_next n bytes) is) ∙ h.1)) (none_means left)
    by_next (Some next) is ok = means_along (start next.0 next.1 left) (FieldRest next.0 next.1 left) (BehindRest b left)
        (λ bytes each h. (h.0, next_is b bytes ∙ ap (λ n. walk_next n bytes) is ∙ h.1))
        (λ bytes each h. (h.0, sym (next_is b bytes ∙ ap (λ n. walk_next n bytes) is) ∙ h.1)) (start_means next.0 next.1 left ok.0 ok.1 fits_)

-- ---- within a field

pub in_field_means : (next : Next) (b : Behind) (left : ℕ) → IsNext next → AreFew b → left ≤ MAX_MESSAGE → Means (in_field next b left) (λ bytes. (length bytes ≡ left) × (option_and_then (behind_taken b) (taken next bytes) ≡ Some []))
in_field_means Refused b left ok few fits_ = λ bytes each goes. absurd (let e = goes.1 in cc)
in_field_means whole_field b left ok few fits_ = after_means b left few fits_
in_field_means (on_field field) b left ok few fits_ = start_means field b left ok few fits_

-- ---- some bytes go on from each place in a field

pub range_field : (field : FieldPlace) → IsPlace field → IsRange (field_sizes field)
range_field (Any count) ok = record { some = omega arith }
range_field (AnyThenBit count) ok = record { some = omega arith }
range_field (Found wanted.Any) ok = record { some = omega arith }
range_field (Found wanted.There) ok = record { some = omega arith }
range_field (Found wanted.Replaced) ok = record { some = omega arith }
range_field (Found wanted.Tracked) ok = record { some = omega arith }
range_field (Found wanted.File) ok = record { some = omega arith }
range_field Done ok = record { some = omega arith }
range_field (Size m due value) ok =
    let some : 1 ≤ worth due = worth_some due in
    let wide : value * worth due + worth due ≤ (value + 1) * worth due = omega arith in
    record { some = range_of m (worth due) value some (worth_least due ok.0) ok.4 }
  where
    worth_some : (due : ℕ) → 1 ≤ worth due
    worth_some due = grind (arith, nat_tests)

    worth_least : (due : ℕ) → 1 ≤ due → 256 ≤ worth due
    worth_least due some = grind (arith, nat_tests, some)

    range_of : (m : Measured) (p value : ℕ) → 1 ≤ p → 256 ≤ p → value * p ≤ most_size m → due + max (least_size m) (value * p) ≤ due + min (most_size m) ((value + 1) * p - 1)
    range_of measured.Path p value some wide most = omega (arith, most, wide)
    range_of measured.Name p value some wide most = omega (arith, most, wide)
    range_of measured.Text p value some wide most = omega (arith, most, wide)
    range_of measured.Bytes p value some wide most = omega (arith, most, wide)
    range_of measured.Piece p value some wide most = omega (arith, most, wide)
range_field (Path p left) ok = record { some = omega arith }
range_field (Text begun left) ok = record { some = omega arith }

pub range_behind : (b : Behind) → IsRange (behind_sizes b)
range_behind behind.Nothing = record { some = omega arith }
range_behind behind.Bit = record { some = omega arith }
range_behind behind.Replaced = record { some = omega arith }
range_behind behind.Tracked = record { some = omega arith }
range_behind behind.FileBit = record { some = omega arith }
range_behind behind.Stamped = record { some = omega arith }
range_behind behind.BitReplaced = record { some = omega arith }
range_behind behind.Placed = record { some = omega arith }
range_behind behind.Linked = record { some = omega arith }
range_behind (behind.Asked requests.List) = record { some = omega arith }
range_behind (behind.Asked requests.Fetch) = record { some = omega arith }
range_behind (behind.Asked requests.StageClear) = record { some = omega arith }
range_behind (behind.Asked requests.StageOpen) = record { some = omega arith }
range_behind (behind.Asked requests.StageAppend) = record { some = omega arith }
range_behind (behind.Asked requests.StageKeep) = record { some = omega arith }
range_behind (behind.Asked requests.Place) = record { some = omega arith }
range_behind (behind.Asked requests.MakeDir) = record { some = omega arith }
range_behind (behind.Asked requests.MakeLink) = record { some = omega arith }
range_behind (behind.Asked requests.Remove) = record { some = omega arith }
range_behind (behind.Asked requests.SetExec) = record { some = omega arith }
range_behind (behind.Entry zero) = record { some = omega arith }
range_behind (behind.Entry (suc rows)) =
    let some : (suc rows == 0) ≡ false = grind (arith, nat_tests) in
    record { some = rw some (omega arith) }
range_behind (behind.Rows rows) = record { some = omega arith }

-- bytes that go on from a place, to the end of a message
pub record GoesOn (place : Place) : Type 0 where
  pub bytes : List ℕ
  pub each : AreBytes bytes
  pub rest : IsRest place bytes

pub field_goes_on : (field : FieldPlace) (b : Behind) (left : ℕ) → IsReached (Field field b left) → GoesOn (Field field b left)
field_goes_on field b left ok =
    let m = meet_of (field_sizes field) (behind_sizes b) left (range_field field ok.0) (range_behind b) ok.1.1.1 in
    let e = m.sum in
    let first = fills field m.first ok.0 m.has_first in
    let second = (behind_measures b).fills m.second m.has_second in
    record {
      bytes = first.bytes ++ second.0;
      each = AreBytes-append first.bytes second.0 first.each second.2;
      rest = (omega (arith, length-append first.bytes second.0, first.len, second.1, e), ap (option_and_then (behind_taken b)) (taken_append (on_field field) first.bytes [] second.0 first.is) ∙ second.3);
    }
