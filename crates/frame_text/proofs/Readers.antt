-- How a reader of words goes on.
use Rattle.std.proofs.Common.{◌≡◌, ℕ, List, [], ◌∷◌, ◌++◌, map, refl, sym, ap, subst, ◌∙◌, append_assoc, Option, Some, None, Result, Ok, Err}
use Rattle.std.specs.Prelude.{IfOk}
use Rattle.line_words.specs.Lines.{Item, HasWords}
use Rattle.frame_text.specs.Reading.{Reads}

-- the words of no item, and of an item that is no word
no_words : (words : List (List ℕ)) → HasWords [] words → words ≡ []
no_words [] h = refl
no_words (w ∷ words) h = absurd (cc)

pub bad_item : (place : ℕ) (left : List Item) (words : List (List ℕ)) → HasWords (record { place = place; word = None } ∷ left) words → ⊥
bad_item place left [] h = absurd (cc)
bad_item place left (w ∷ words) h = absurd (cc)

pub first_word : (place : ℕ) (word : List ℕ) (left : List Item) (words : List (List ℕ)) → HasWords (record { place = place; word = Some word } ∷ left) words
    → (rest : List (List ℕ)) × (words ≡ word ∷ rest) × HasWords left rest
first_word place word left [] h = absurd (cc)
first_word place word left (w ∷ words) h =
    let same : w ≡ word = cc in
    let more : HasWords left words = cc in
    (words, ap (λ v. v ∷ words) same, more)

pub one_more : (place : ℕ) (word : List ℕ) (items left : List Item) (words : List (List ℕ)) → items ≡ record { place = place; word = Some word } ∷ left → HasWords left words → HasWords items (word ∷ words)
one_more place word items left words e h = ap (map (λ (i : Item). i.word)) e ∙ ap (λ ws. Some word ∷ ws) h

module _ {V : Type 0} (Is : V → Type 0) (words_in : V → List (List ℕ)) where
  -- a word more was read
  pub onward : (before : List (List ℕ)) (items left : List Item) (place : ℕ) (word : List ℕ) (found : Option V)
      → items ≡ record { place = place; word = Some word } ∷ left → Reads Is words_in (before ++ word ∷ []) left found → Reads Is words_in before items found
  onward before items left place word (Some v) e h =
      (h.0, (word ∷ h.1.0, one_more place word items left h.1.0 e h.1.1, h.1.2 ∙ append_assoc before (word ∷ []) h.1.0))
  onward before items left place word None e h = λ v is words has whole.
      let first = first_word place word left words (subst (λ is. HasWords is words) e has) in
      h v is first.0 first.2 (whole ∙ ap (λ ws. before ++ ws) first.1 ∙ sym (append_assoc before (word ∷ []) first.0))

  pub onward_ok : {E : Type 0} (before : List (List ℕ)) (items left : List Item) (place : ℕ) (word : List ℕ) (result : Result (Option V) E)
      → items ≡ record { place = place; word = Some word } ∷ left → IfOk result (Reads Is words_in (before ++ word ∷ []) left) → IfOk result (Reads Is words_in before items)
  onward_ok before items left place word (Ok found) e h = onward before items left place word found e h
  onward_ok before items left place word (Err error) e h = tt

  -- the line ends here, and no value does
  pub ended : (before : List (List ℕ)) (items : List Item) → items ≡ [] → ((v : V) → Is v → words_in v ≡ before ++ [] → ⊥) → Reads Is words_in before items None
  ended before items e short = λ v is words has whole.
      short v is (whole ∙ ap (λ ws. before ++ ws) (no_words words (subst (λ is. HasWords is words) e has)))

  -- what stands here is no word
  pub failed : (before : List (List ℕ)) (items left : List Item) (place : ℕ) → items ≡ record { place = place; word = None } ∷ left → Reads Is words_in before items None
  failed before items left place e = λ v is words has whole. bad_item place left words (subst (λ is. HasWords is words) e has)

  -- with this word no value goes on
  pub stopped : (before : List (List ℕ)) (items left : List Item) (place : ℕ) (word : List ℕ) → items ≡ record { place = place; word = Some word } ∷ left
      → ((v : V) → Is v → (more : List (List ℕ)) → words_in v ≡ before ++ word ∷ more → ⊥) → Reads Is words_in before items None
  stopped before items left place word e none = λ v is words has whole.
      let first = first_word place word left words (subst (λ is. HasWords is words) e has) in
      none v is first.0 (whole ∙ ap (λ ws. before ++ ws) first.1)
