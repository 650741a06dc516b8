-- How many bytes can come behind a field: each number of its sizes, and no other.
use Rattle.std.proofs.Common.{◌≡◌, ℕ, zero, suc, ◌+◌, ◌-◌, ◌*◌, ◌<◌, ◌≤◌, ◌^◌, cond, List, [], ◌∷◌, ◌++◌, length, refl, sym, ◌∙◌, ap, subst, arith, ◌⊎◌, inl, inr, Some, length-append}
use Rattle.std.specs.Prelude.{Option}
use Rattle.std.specs.Option.{option_and_then}
use Rattle.std.proofs.lemmas.Bool.Decides.{leb_tells}
use Rattle.mux_frames.specs.Numbers.{AreBytes}
use Rattle.mux_frames.proofs.Digits.{AreBytes-append, AreBytes-back}
use Rattle.agent_proto.specs.declared.behind.Behind.{Behind}
use Rattle.agent_proto.specs.declared.behind.Behind.TheVariants as behind
use Rattle.agent_proto.specs.declared.kind.Request.TheVariants as requests
use Rattle.agent_proto.specs.declared.field_place.Wanted.TheVariants as wanted
use Rattle.agent_proto.specs.declared.field_place.Measured.TheVariants as measured
use Rattle.agent_proto.specs.declared.field_place.FieldPlace.{FieldPlace}
use Rattle.agent_proto.specs.declared.field_place.FieldPlace.TheVariants.{Any, AnyThenBit, Found, Size}
use Rattle.agent_proto.specs.declared.field_place.Next.{Next}
use Rattle.agent_proto.specs.declared.field_place.Next.TheVariants.{Refused, Whole, On}
use Rattle.agent_proto.specs.declared.sizes.Sizes.{Sizes}
use Rattle.agent_proto.specs.FieldPlaces.{field_step, taken, IsPlace}
use Rattle.agent_proto.specs.Sizes.{Has, of_size, between, field_sizes}
use Rattle.agent_proto.specs.Behinds.{then_taken, rows_taken, replaced_taken, bit_taken_then, behind_taken, entry_sizes, behind_sizes}
use Rattle.agent_proto.proofs.Comparisons.{suc_zero}
use Rattle.agent_proto.proofs.Found.{some_is}
use Rattle.agent_proto.proofs.Sums.{Meet}
use Rattle.agent_proto.proofs.FieldSizes.{fits, fills, then_found}

-- ---- walks over bytes with others behind them

pub taken_append : (next : Next) (bytes rest more : List ℕ) → taken next bytes ≡ Some rest → taken next (bytes ++ more) ≡ Some (rest ++ more)
taken_append Refused bytes rest more e = absurd cc
taken_append Whole bytes rest more e = ap (λ xs. Some (xs ++ more)) (some_is bytes rest e)
taken_append (On field) [] rest more e = absurd cc
taken_append (On field) (b ∷ bytes) rest more e = taken_append (field_step field b) bytes rest more e

-- what is left are the last of the bytes
pub taken_back : (next : Next) (bytes rest : List ℕ) → taken next bytes ≡ Some rest → (front : List ℕ) × (bytes ≡ front ++ rest)
taken_back Refused bytes rest e = absurd cc
taken_back Whole bytes rest e = ([], some_is bytes rest e)
taken_back (On field) [] rest e = absurd cc
taken_back (On field) (b ∷ bytes) rest e = let h = taken_back (field_step field b) bytes rest e in (b ∷ h.0, ap (λ xs. b ∷ xs) h.1)

pub bytes_left : (next : Next) (bytes rest : List ℕ) → AreBytes bytes → taken next bytes ≡ Some rest → AreBytes rest
bytes_left next bytes rest each e = let h = taken_back next bytes rest e in AreBytes-back h.0 rest (subst AreBytes h.1 each)

-- ---- sums of sizes

-- these are the sums of a size of each
record IsSum (s t u : Sizes) : Type 0 where
  to : (n : ℕ) → Has u n → Meet s t n
  from : (n : ℕ) → Meet s t n → Has u n

abbrev shifted : ℕ → Sizes → Sizes
shifted k t = record { one = k + t.one; low = k + t.low; high = k + t.high }

shift_law : (k : ℕ) (t : Sizes) → IsSum (of_size k) t (shifted k t)
shift_law k t = record {
  to = λ n has. elim has [
    | inl h ↦ record { first = k; second = t.one; has_first = inl refl; has_second = inl refl; sum = sym h }
    | inr h ↦ record { first = k; second = n - k; has_first = inl refl; has_second = inr (omega (arith, h.0), omega (arith, h.0, h.1)); sum = omega (arith, h.0) }
  ];
  from = λ n m.
      let one : m.first ≡ k = elim m.has_first [ inl h ↦ h | inr h ↦ omega (arith, h.0, h.1) ] in
      let sum = m.sum in
      elim m.has_second [
        | inl h ↦ inl (omega (arith, one, h, sum))
        | inr h ↦ inr (omega (arith, one, h.0, sum), omega (arith, one, h.1, sum))
      ];
}

-- the first go from least to greatest, and what the others leave out between is no wider
wide_law : (s t : Sizes) → s.one ≡ s.low → s.low ≤ s.high → t.one ≤ t.low → t.low ≤ t.high → t.low + s.low ≤ t.one + 1 + s.high → IsSum s t (between (s.low + t.one) (s.high + t.high))
wide_law s t one some first range gap = record {
  to = λ n has.
      let bounds : (s.low + t.one ≤ n) × (n ≤ s.high + t.high) = elim has [ inl h ↦ (omega (arith, h), omega (arith, h, some, first, range)) | inr h ↦ (h.0, h.1) ] in
      wide n bounds.0 bounds.1 (cases_le n (s.high + t.one)) (cases_le n (s.high + t.low));
  from = λ n m.
      let sum = m.sum in
      let a : (s.low ≤ m.first) × (m.first ≤ s.high) = elim m.has_first [ inl h ↦ (omega (arith, h, one), omega (arith, h, one, some)) | inr h ↦ (h.0, h.1) ] in
      let b : (t.one ≤ m.second) × (m.second ≤ t.high) = elim m.has_second [ inl h ↦ (omega (arith, h), omega (arith, h, first, range)) | inr h ↦ (omega (arith, h.0, first), h.1) ] in
      inr (omega (arith, a.0, b.0, sum), omega (arith, a.1, b.1, sum));
}
  where
    cases_le : (a b : ℕ) → (a ≤ b) ⊎ (b < a)
    cases_le a b = elim (leb_tells a b) [ inl p ↦ inl p.1 | inr p ↦ inr p.1 ]

    wide : (n : ℕ) → s.low + t.one ≤ n → n ≤ s.high + t.high → (n ≤ s.high + t.one) ⊎ (s.high + t.one < n) → (n ≤ s.high + t.low) ⊎ (s.high + t.low < n) → Meet s t n
    wide n low high (inl p) q = record { first = n - t.one; second = t.one; has_first = inr (omega (arith, low), omega (arith, p, low)); has_second = inl refl; sum = omega (arith, low) }
    wide n low high (inr p) (inl q) = record { first = n - t.low; second = t.low; has_first = inr (omega (arith, p, gap), omega (arith, q)); has_second = inr (omega arith, range); sum = omega (arith, p, gap) }
    wide n low high (inr p) (inr q) = record { first = s.high; second = n - s.high; has_first = inr (some, omega arith); has_second = inr (omega (arith, q), omega (arith, q, high)); sum = omega (arith, q) }

turned : (s t u : Sizes) → IsSum s t u → IsSum t s u
turned s t u sum = record {
  to = λ n has. let m = sum.to n has in let e = m.sum in record { first = m.second; second = m.first; has_first = m.has_second; has_second = m.has_first; sum = omega (arith, e) };
  from = λ n m. let e = m.sum in sum.from n (record { first = m.second; second = m.first; has_first = m.has_second; has_second = m.has_first; sum = omega (arith, e) });
}

-- ---- a field, and what is behind it

-- each number of these sizes is that of bytes that are taken to the last, and of no others
pub record Measures (walk : List ℕ → Option (List ℕ)) (sizes : Sizes) : Type 0 where
  pub fills : (n : ℕ) → Has sizes n → (bytes : List ℕ) × (length bytes ≡ n) × AreBytes bytes × (walk bytes ≡ Some [])
  pub fits : (bytes rest : List ℕ) → AreBytes bytes → walk bytes ≡ Some rest → (n : ℕ) × Has sizes n × (n + length rest ≡ length bytes)

nothing_measures : Measures Some (of_size 0)
nothing_measures = record {
  fills = λ n has. let none : n ≡ 0 = elim has [ inl h ↦ h | inr h ↦ omega (arith, h.1) ] in ([], sym none, tt, refl);
  fits = λ bytes rest each e. let same : length bytes ≡ length rest = ap length (some_is bytes rest e) in (0, inl refl, omega (arith, same));
}

then_measures : (field : FieldPlace) (walk : List ℕ → Option (List ℕ)) (t u : Sizes) → IsPlace field → IsSum (field_sizes field) t u → Measures walk t → Measures (then_taken field walk) u
then_measures field walk t u ok sum behind_ = record {
  fills = λ n has.
      let m = sum.to n has in
      let e = m.sum in
      let first = fills field m.first ok m.has_first in
      let second = behind_.fills m.second m.has_second in (
        first.bytes ++ second.0,
        omega (arith, length-append first.bytes second.0, first.len, second.1, e),
        AreBytes-append first.bytes second.0 first.each second.2,
        ap (option_and_then walk) (taken_append (On field) first.bytes [] second.0 first.is) ∙ second.3,
      );
  fits = λ bytes rest each e.
      let found = then_found walk (taken (On field) bytes) rest e in
      let first = fits field bytes found.0 ok each found.1 in
      let second = behind_.fits found.0 rest (bytes_left (On field) bytes found.0 each found.1) found.2 in
      let a = first.sum in
      (first.size + second.0, sum.from (first.size + second.0) (record { first = first.size; second = second.0; has_first = first.has; has_second = second.1; sum = refl }), omega (arith, a, second.2));
}

-- ---- each

bit_measures : (walk : List ℕ → Option (List ℕ)) (t : Sizes) → Measures walk t → Measures (bit_taken_then walk) (shifted 1 t)
bit_measures walk t m = then_measures (AnyThenBit 0) walk t (shifted 1 t) (omega arith) (shift_law 1 t) m

any_measures : (count : ℕ) (walk : List ℕ → Option (List ℕ)) (t : Sizes) → 1 ≤ count → count < 2 ^ 32 → Measures walk t → Measures (then_taken (Any count) walk) (shifted count t)
any_measures count walk t some few m = then_measures (Any count) walk t (shifted count t) (some, few) (shift_law count t) m

-- an entry alone
entry_alone : IsSum entry_sizes (of_size 0) entry_sizes
entry_alone = record {
  to = λ n has. record { first = n; second = 0; has_first = has; has_second = inl refl; sum = omega arith };
  from = λ n m. let e = m.sum in let none : m.second ≡ 0 = elim m.has_second [ inl h ↦ h | inr h ↦ omega (arith, h.1) ] in subst (Has entry_sizes) (omega (arith, e, none)) m.has_first;
}

replaced_measures : Measures replaced_taken entry_sizes
replaced_measures = then_measures (Found wanted.Replaced) Some (of_size 0) entry_sizes tt entry_alone nothing_measures

tracked_measures : Measures (then_taken (Found wanted.Tracked) Some) entry_sizes
tracked_measures = then_measures (Found wanted.Tracked) Some (of_size 0) entry_sizes tt entry_alone nothing_measures

file_bit_measures : Measures (then_taken (Found wanted.File) (bit_taken_then Some)) (of_size 19)
file_bit_measures = then_measures (Found wanted.File) (bit_taken_then Some) (of_size 1) (of_size 19) tt (shift_law 18 (of_size 1)) (bit_measures Some (of_size 0) nothing_measures)

path_measures : (walk : List ℕ → Option (List ℕ)) (t : Sizes) → t.one ≤ t.low → t.low ≤ t.high → t.low ≤ t.one + 4000 → Measures walk t → Measures (then_taken (Size measured.Path 2 0) walk) (between (2 + t.one) (4098 + t.high))
path_measures walk t first range gap m =
    then_measures (Size measured.Path 2 0) walk t (between (2 + t.one) (4098 + t.high)) (omega arith, omega arith, omega arith, omega arith, omega arith)
    (wide_law (field_sizes (Size measured.Path 2 0)) t refl (omega arith) first range (omega (arith, gap))) m

text_measures : (walk : List ℕ → Option (List ℕ)) (t : Sizes) → t.one ≤ t.low → t.low ≤ t.high → t.low ≤ t.one + 4000 → Measures walk t → Measures (then_taken (Size measured.Text 2 0) walk) (between (3 + t.one) (4098 + t.high))
text_measures walk t first range gap m =
    then_measures (Size measured.Text 2 0) walk t (between (3 + t.one) (4098 + t.high)) (omega arith, omega arith, omega arith, omega arith, omega arith)
    (wide_law (field_sizes (Size measured.Text 2 0)) t refl (omega arith) first range (omega (arith, gap))) m

bytes_measures : Measures (then_taken (Size measured.Bytes 4 0) Some) (between 4 4294967299)
bytes_measures =
    then_measures (Size measured.Bytes 4 0) Some (of_size 0) (between 4 4294967299) (omega arith, omega arith, omega arith, omega arith, omega arith)
    (wide_law (field_sizes (Size measured.Bytes 4 0)) (of_size 0) refl (omega arith) (omega arith) (omega arith) (omega arith)) nothing_measures

-- ---- rows

entry_rows : (rows : ℕ) → IsSum entry_sizes (between (4 * rows) (4356 * rows)) (behind_sizes (behind.Entry rows))
entry_rows zero = entry_alone
entry_rows (suc rows) =
    let sum = wide_law (between (4 * suc rows) (4356 * suc rows)) entry_sizes refl (omega arith) (omega arith) (omega arith) (omega arith) in
    subst (λ z. IsSum entry_sizes (between (4 * suc rows) (4356 * suc rows)) (cond z entry_sizes (between (4 * suc rows + 1) (4356 * suc rows + 4099)))) (sym (suc_zero rows))
    (turned (between (4 * suc rows) (4356 * suc rows)) entry_sizes (between (4 * suc rows + 1) (4356 * suc rows + 4099)) sum)

name_rows : (rows : ℕ) → IsSum (field_sizes (Size measured.Name 2 0)) (behind_sizes (behind.Entry rows)) (between (4 * suc rows) (4356 * suc rows))
name_rows zero = wide_law (field_sizes (Size measured.Name 2 0)) entry_sizes refl (omega arith) (omega arith) (omega arith) (omega arith)
name_rows (suc rows) =
    let t = between (4 * suc rows + 1) (4356 * suc rows + 4099) in
    let sum = wide_law (field_sizes (Size measured.Name 2 0)) t refl (omega arith) (omega arith) (omega arith) (omega arith) in
    let low : 3 + (4 * suc rows + 1) ≡ 4 * suc (suc rows) = omega arith in
    let high : 257 + (4356 * suc rows + 4099) ≡ 4356 * suc (suc rows) = omega arith in
    subst (λ z. IsSum (field_sizes (Size measured.Name 2 0)) (cond z entry_sizes t) (between (4 * suc (suc rows)) (4356 * suc (suc rows)))) (sym (suc_zero rows))
    (subst (λ (k : ℕ). IsSum (field_sizes (Size measured.Name 2 0)) t (between (4 * suc (suc rows)) k)) high
    (subst (λ (k : ℕ). IsSum (field_sizes (Size measured.Name 2 0)) t (between k (257 + (4356 * suc rows + 4099)))) low sum))

entry_measures : (rows : ℕ) → Measures (rows_taken rows) (between (4 * rows) (4356 * rows)) → Measures (then_taken (Found wanted.There) (rows_taken rows)) (behind_sizes (behind.Entry rows))
entry_measures rows m = then_measures (Found wanted.There) (rows_taken rows) (between (4 * rows) (4356 * rows)) (behind_sizes (behind.Entry rows)) tt (entry_rows rows) m

pub rows_measures : (rows : ℕ) → Measures (rows_taken rows) (between (4 * rows) (4356 * rows))
rows_measures zero = nothing_measures
rows_measures (suc rows) =
    then_measures (Size measured.Name 2 0) (λ rest. then_taken (Found wanted.There) (rows_taken rows) rest) (behind_sizes (behind.Entry rows)) (between (4 * suc rows) (4356 * suc rows)) (omega arith, omega arith, omega arith, omega arith, omega arith)
    (name_rows rows) (entry_measures rows (rows_measures rows))

-- ---- all

placed_measures : Measures (then_taken (Any 32) (bit_taken_then replaced_taken)) (behind_sizes behind.Placed)
placed_measures = any_measures 32 (bit_taken_then replaced_taken) (behind_sizes behind.BitReplaced) (omega arith) (omega arith) (bit_measures replaced_taken entry_sizes replaced_measures)

linked_measures : Measures (then_taken (Size measured.Text 2 0) replaced_taken) (behind_sizes behind.Linked)
linked_measures = text_measures replaced_taken entry_sizes (omega arith) (omega arith) (omega arith) replaced_measures

pub behind_measures : (b : Behind) → Measures (behind_taken b) (behind_sizes b)
behind_measures behind.Nothing = nothing_measures
behind_measures behind.Bit = bit_measures Some (of_size 0) nothing_measures
behind_measures behind.Replaced = replaced_measures
behind_measures behind.Tracked = tracked_measures
behind_measures behind.FileBit = file_bit_measures
behind_measures behind.Stamped = any_measures 24 Some (of_size 0) (omega arith) (omega arith) nothing_measures
behind_measures behind.BitReplaced = bit_measures replaced_taken entry_sizes replaced_measures
behind_measures behind.Placed = placed_measures
behind_measures behind.Linked = linked_measures
behind_measures (behind.Asked requests.List) = path_measures Some (of_size 0) (omega arith) (omega arith) (omega arith) nothing_measures
behind_measures (behind.Asked requests.Fetch) = path_measures (then_taken (Any 24) Some) (of_size 24) (omega arith) (omega arith) (omega arith) (any_measures 24 Some (of_size 0) (omega arith) (omega arith) nothing_measures)
behind_measures (behind.Asked requests.StageClear) = nothing_measures
behind_measures (behind.Asked requests.StageOpen) = nothing_measures
behind_measures (behind.Asked requests.StageAppend) = bytes_measures
behind_measures (behind.Asked requests.StageKeep) = any_measures 32 Some (of_size 0) (omega arith) (omega arith) nothing_measures
behind_measures (behind.Asked requests.Place) = path_measures (then_taken (Any 32) (bit_taken_then replaced_taken)) (behind_sizes behind.Placed) (omega arith) (omega arith) (omega arith) placed_measures
behind_measures (behind.Asked requests.MakeDir) = path_measures Some (of_size 0) (omega arith) (omega arith) (omega arith) nothing_measures
behind_measures (behind.Asked requests.MakeLink) = path_measures (then_taken (Size measured.Text 2 0) replaced_taken) (behind_sizes behind.Linked) (omega arith) (omega arith) (omega arith) linked_measures
behind_measures (behind.Asked requests.Remove) = path_measures (then_taken (Found wanted.Tracked) Some) entry_sizes (omega arith) (omega arith) (omega arith) tracked_measures
behind_measures (behind.Asked requests.SetExec) = path_measures (then_taken (Found wanted.File) (bit_taken_then Some)) (of_size 19) (omega arith) (omega arith) (omega arith) file_bit_measures
behind_measures (behind.Entry rows) = entry_measures rows (rows_measures rows)
behind_measures (behind.Rows rows) = rows_measures rows
