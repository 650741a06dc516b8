-- The numbers that end a line.
use Rattle.std.proofs.Common.{◌≡◌, ◌↔◌, ℕ, ◌<◌, ◌≤◌, ◌^◌, ◌-◌, List, [], ◌∷◌, ◌++◌, map, refl, sym, subst, append_assoc, Some, None, arith}
use Rattle.std.specs.Fmt.{decimal}
use Rattle.std.proofs.lemmas.List.{append-nil}
use Rattle.line_words.specs.Lines.{Item, HasWords}
use Rattle.frame_text.specs.Reading.{AreNumbers, ReadsNumbers}
use Rattle.frame_text.proofs.Readers.{bad_item, first_word, one_more}

-- Some numbers were read, and these items are left: the whole is numbers just where the items left are, behind these.
pub record Counted (items : List Item) (numbers : List ℕ) (left : List Item) : Type 0 where
  pub sound : AreNumbers numbers
  pub joins : (more : List ℕ) → HasWords left (map decimal more) → HasWords items (map decimal (numbers ++ more))
  pub parts : (all : List ℕ) → AreNumbers all → HasWords items (map decimal all) → (more : List ℕ) × AreNumbers more × HasWords left (map decimal more)

pub counted_start : (items : List Item) → Counted items [] items
counted_start items = record { sound = tt; joins = λ more h. h; parts = λ all h k. (all, h, k) }

sound_push : (numbers : List ℕ) (n : ℕ) → AreNumbers numbers → n < 2 ^ 64 → AreNumbers (numbers ++ n ∷ [])
sound_push [] n h k = (k, tt)
sound_push (m ∷ numbers) n h k = (h.0, sound_push numbers n h.1 k)

pub counted_step : (items : List Item) (numbers : List ℕ) (left rest : List Item) (place : ℕ) (word : List ℕ) (n : ℕ) → Counted items numbers left
    → left ≡ record { place = place; word = Some word } ∷ rest → n < 2 ^ 64 → word ≡ decimal n → Counted items (numbers ++ n ∷ []) rest
counted_step items numbers left rest place word n c e small is = record {
  sound = sound_push numbers n c.sound small;
  joins = λ more h.
      subst (λ ns. HasWords items (map decimal ns)) (sym (append_assoc numbers (n ∷ []) more))
      (c.joins (n ∷ more) (subst (λ w. HasWords left (w ∷ map decimal more)) is (one_more place word left rest (map decimal more) e h)));
  parts = λ all h k. let behind = c.parts all h k in by behind.0 behind.1 (subst (λ is. HasWords is (map decimal behind.0)) e behind.2);
}
  where
    by : (more : List ℕ) → AreNumbers more → HasWords (record { place = place; word = Some word } ∷ rest) (map decimal more)
        → (behind : List ℕ) × AreNumbers behind × HasWords rest (map decimal behind)
    by [] h k = absurd (cc)
    by (m ∷ more) h k = let told : HasWords rest (map decimal more) = cc in (more, h.1, told)

pub counted_end : (items : List Item) (numbers : List ℕ) (left : List Item) → Counted items numbers left → left ≡ [] → ReadsNumbers items (Some numbers)
counted_end items numbers left c e =
    let none : HasWords left (map decimal []) = subst (λ is. HasWords is []) (sym e) refl in
    (c.sound, subst (λ ns. HasWords items (map decimal ns)) (append-nil numbers) (c.joins [] none))

-- what stands here is no word
pub counted_failed : (items : List Item) (numbers : List ℕ) (left rest : List Item) (place : ℕ) → Counted items numbers left → left ≡ record { place = place; word = None } ∷ rest → ReadsNumbers items None
counted_failed items numbers left rest place c e = λ all h k.
    let behind = c.parts all h k in bad_item place rest (map decimal behind.0) (subst (λ is. HasWords is (map decimal behind.0)) e behind.2)

-- the word here is no number
pub counted_stopped : (items : List Item) (numbers : List ℕ) (left rest : List Item) (place : ℕ) (word : List ℕ) → Counted items numbers left
    → left ≡ record { place = place; word = Some word } ∷ rest → ((n : ℕ) → (None ≡ Some n) ↔ ((n ≤ 2 ^ 64 - 1) × (word ≡ decimal n))) → ReadsNumbers items None
counted_stopped items numbers left rest place word c e none = λ all h k.
    let behind = c.parts all h k in by behind.0 behind.1 (first_word place word rest (map decimal behind.0) (subst (λ is. HasWords is (map decimal behind.0)) e behind.2))
  where
    by : (more : List ℕ) → AreNumbers more → ((words : List (List ℕ)) × (map decimal more ≡ word ∷ words) × HasWords rest words) → ⊥
    by [] h f = let no : [] ≡ word ∷ f.0 = f.1 in absurd (cc)
    by (n ∷ more) h f =
        let whole : decimal n ∷ map decimal more ≡ word ∷ f.0 = f.1 in
        let first : decimal n ≡ word = cc in
        let no : None ≡ Some n = (none n).1 (omega (arith, h.0), sym first) in absurd (cc)
