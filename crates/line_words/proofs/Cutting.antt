-- A list cut at the first element that passes, and a line at its first space.
use Rattle.std.proofs.Common.{◌≡◌, ℕ, ◌+◌, ◌-◌, ◌<◌, ◌≤◌, Bool, true, false, cond, Option, Some, None, List, [], ◌∷◌, length, take, drop, refl, sym, ap, ◌∙◌, arith, length-drop}
use Rattle.std.specs.Prelude.{nat_lt, ◌==◌}
use Rattle.std.proofs.lemmas.List.{drop-drop, length-take-le}
use Rattle.std.specs.List.{slice_split, position, position_or_len}
use Rattle.std.proofs.lemmas.List.Quantifiers.{position-Some}
use Rattle.std.proofs.lemmas.List.Splits.{slice_split_first, slice_split_none}
use Rattle.std.proofs.lemmas.List.Sums.{position_or_len_is, fails_before_first}
use borrow.Author.Tests.{ltb-false}
use Rattle.line_words.specs.declared.reading.Reading.{Reading}
use Rattle.line_words.specs.Lines.{items_of, is_skipped, Item}
use Rattle.line_words.specs.Spelling.{word_of, space}
use Rattle.line_words.specs.Steps.{Cuts, IsBehind, left_of, parts_from, IsWithin, room_of}

pub cut_some : (p : ℕ → Bool) (xs : List ℕ) (n : ℕ) → position p xs ≡ Some n
    → (n < length xs) × (slice_split p xs ≡ take n xs ∷ slice_split p (drop (n + 1) xs))
cut_some p xs n h =
    let at = position-Some p xs n 0 h in
    let within : n < length xs = at.0 in
    let is : position_or_len p xs ≡ n = position_or_len_is p xs n 0 (omega arith) at.2 (λ _. at.1) in
    (within, slice_split_first p xs 0 (rw is within) ∙ ap (λ i. take i xs ∷ slice_split p (drop (i + 1) xs)) is)

no_such : (b : Bool) (n : ℕ) → cond b (Some n) None ≡ None → b ≡ false
no_such true n h = absurd (cc)
no_such false n h = refl

pub cut_none : (p : ℕ → Bool) (xs : List ℕ) → position p xs ≡ None → slice_split p xs ≡ xs ∷ []
cut_none p xs h =
    let far : length xs ≤ position_or_len p xs = ltb-false _ _ (no_such (nat_lt (position_or_len p xs) (length xs)) (position_or_len p xs) h) in
    slice_split_none p xs (λ k d lt. fails_before_first p xs k d (omega arith))

-- the items of what is left behind a part
pub items_behind : (reading : Reading) (line : List ℕ) (at : ℕ) (bytes : List ℕ) (next : Option ℕ) → IsBehind at bytes next
    → items_of reading (at + length bytes + 1) (parts_from line next) ≡ left_of reading line next
items_behind reading line at bytes None h = refl
items_behind reading line at bytes (Some next) h = ap (λ i. items_of reading i (parts_from line (Some next))) (sym h)

pub left_skipped : (reading : Reading) (line : List ℕ) (at : ℕ) (bytes : List ℕ) (next : Option ℕ) → Cuts line at bytes next
    → is_skipped reading bytes ≡ true → left_of reading line (Some at) ≡ left_of reading line next
left_skipped reading line at bytes next c s =
    ap (items_of reading at) c.parts
    ∙ ap (λ b. cond b (items_of reading (at + length bytes + 1) (parts_from line next)) (record { place = at; word = word_of reading bytes } ∷ items_of reading (at + length bytes + 1) (parts_from line next))) s
    ∙ items_behind reading line at bytes next c.behind

pub left_item : (reading : Reading) (line : List ℕ) (at : ℕ) (bytes : List ℕ) (next : Option ℕ) → Cuts line at bytes next
    → is_skipped reading bytes ≡ false → left_of reading line (Some at) ≡ record { place = at; word = word_of reading bytes } ∷ left_of reading line next
left_item reading line at bytes next c s =
    let item : Item = record { place = at; word = word_of reading bytes } in
    ap (items_of reading at) c.parts
    ∙ ap (λ b. cond b (items_of reading (at + length bytes + 1) (parts_from line next)) (item ∷ items_of reading (at + length bytes + 1) (parts_from line next))) s
    ∙ ap (λ items. item ∷ items) (items_behind reading line at bytes next c.behind)

less : (line : List ℕ) (at : ℕ) (bytes : List ℕ) (next : Option ℕ) → at ≤ length line → IsBehind at bytes next → IsWithin line next
    → room_of line next < room_of line (Some at)
less line at bytes None w h i = omega arith
less line at bytes (Some next) w h i = omega arith

pub room_falls : (line : List ℕ) (at : ℕ) (bytes : List ℕ) (next : Option ℕ) → at ≤ length line → Cuts line at bytes next
    → room_of line next < room_of line (Some at)
room_falls line at bytes next w c = less line at bytes next w c.behind c.within

module _ (line : List ℕ) (at : ℕ) where
  pub cuts_at_space : (rest bytes : List ℕ) (len : ℕ) → at ≤ length line → rest ≡ drop at line → bytes ≡ take len rest
      → position (λ b. b == space) rest ≡ Some len → Cuts line at bytes (Some (at + len + 1))
  cuts_at_space rest bytes len w r b h =
      let found = cut_some (λ c. c == space) rest len h in
      let size : length (drop at line) ≡ length line - at = length-drop at line in
      let short : length rest ≡ length line - at = ap length r ∙ size in
      let within : len < length rest = found.0 in
      let taken : length bytes ≡ len = ap length b ∙ length-take-le len rest (omega arith) in
      record {
        parts =
            ap (slice_split (λ c. c == space)) (sym r) ∙ found.1
            ∙ ap (λ bs. bs ∷ slice_split (λ c. c == space) (drop (len + 1) rest)) (sym b)
            ∙ ap (λ bs. bytes ∷ slice_split (λ c. c == space) bs) (ap (drop (len + 1)) r ∙ drop-drop (len + 1) at line ∙ (let e : at + (len + 1) ≡ at + len + 1 = omega arith in ap (λ i. drop i line) e));
        behind = omega arith;
        within = omega arith;
      }

  pub cuts_at_end : (rest : List ℕ) → at ≤ length line → rest ≡ drop at line → position (λ b. b == space) rest ≡ None → Cuts line at rest None
  cuts_at_end rest w r h = record {
    parts = ap (slice_split (λ c. c == space)) (sym r) ∙ cut_none (λ c. c == space) rest h;
    behind = tt;
    within = tt;
  }
