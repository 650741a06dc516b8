-- The lines of a payload: how they are cut, and that a written payload is cut into its lines.
use Rattle.std.proofs.Common.{◌≡◌, ℕ, ◌+◌, ◌-◌, ◌/◌, ◌%◌, ◌<◌, ◌≤◌, Bool, true, false, cond, Some, None, List, [], ◌∷◌, length, take, drop, map, refl, sym, ap, ap₂, subst, ◌∙◌, arith, length-drop}
use Rattle.std.specs.Prelude.{◌==◌}
use Rattle.std.specs.List.{slice_split, position, join_with_byte, All, AllByRecursion}
use Rattle.std.proofs.lemmas.Bool.Decides.{nat_tests}
use Rattle.std.proofs.lemmas.List.{drop-drop, length-take-le}
use Rattle.std.proofs.lemmas.List.Elements.{All-nil, All-cons, All-append}
use Rattle.std.proofs.lemmas.List.Splits.{slice_split_none, slice_split_at, join_with_byte-slice_split}
use Rattle.line_words.specs.Lines.{AreBytes, AreWords}
use Rattle.line_words.specs.Spelling.{written, escaped, spelled, is_plain, percent, upper_digit, space}
use Rattle.line_words.specs.declared.reading.Reading.TheVariants.{Canonical}
use Rattle.line_words.proofs.Cutting.{cut_some, cut_none}
use Rattle.line_words.proofs.ReadBack.{read_words, written_read, words_placed}
use Rattle.frame_text.specs.Payloads.{Cuts, HaveWords, newline, parts_of}

module _ (text : List ℕ) (at : ℕ) where
  pub cuts_at_newline : (rest line : List ℕ) (len : ℕ) → at ≤ length text → rest ≡ drop at text → line ≡ take len rest
      → position (λ b. b == newline) rest ≡ Some len → Cuts text at line (Some (at + len + 1))
  cuts_at_newline rest line len w r b h =
      let found = cut_some (λ c. c == newline) rest len h in
      let size : length (drop at text) ≡ length text - at = length-drop at text in
      let short : length rest ≡ length text - at = ap length r ∙ size in
      let within : len < length rest = found.0 in
      let taken : length line ≡ len = ap length b ∙ length-take-le len rest (omega arith) in
      record {
        parts =
            ap (slice_split (λ c. c == newline)) (sym r) ∙ found.1
            ∙ ap (λ bs. bs ∷ slice_split (λ c. c == newline) (drop (len + 1) rest)) (sym b)
            ∙ ap (λ bs. line ∷ slice_split (λ c. c == newline) bs) (ap (drop (len + 1)) r ∙ drop-drop (len + 1) at text ∙ (let e : at + (len + 1) ≡ at + len + 1 = omega arith in ap (λ i. drop i text) e));
        behind = omega arith;
        within = omega arith;
      }

  pub cuts_at_end : (rest : List ℕ) → at ≤ length text → rest ≡ drop at text → position (λ b. b == newline) rest ≡ None → Cuts text at rest None
  cuts_at_end rest w r h = record {
    parts = ap (slice_split (λ c. c == newline)) (sym r) ∙ cut_none (λ c. c == newline) rest h;
    behind = tt;
    within = tt;
  }

-- ---- lines that have words are the ones that a writer writes

parts_are : (parts : List (List ℕ)) (lines : List (List (List ℕ))) → HaveWords parts lines → parts ≡ map written lines
parts_are [] [] h = refl
parts_are [] (words ∷ lines) h = absurd h
parts_are (part ∷ parts) [] h = absurd h
parts_are (part ∷ parts) (words ∷ lines) h = ap₂ (λ p ps. p ∷ ps) (read_words part words h.0).0 (parts_are parts lines h.1)

pub bytes_are : (bytes : List ℕ) (lines : List (List (List ℕ))) → HaveWords (parts_of bytes) lines → bytes ≡ join_with_byte newline (map written lines)
bytes_are bytes lines h = sym (join_with_byte-slice_split newline bytes) ∙ ap (join_with_byte newline) (parts_are (parts_of bytes) lines h)

-- ---- a written payload is cut into its lines

abbrev NotNewline : ℕ → Type 0
NotNewline b = (b == newline) ≡ false

plain_no_newline : (b : ℕ) → is_plain b ≡ true → NotNewline b
plain_no_newline b h = grind (arith, nat_tests)

digit_no_newline : (d : ℕ) → d < 16 → NotNewline (upper_digit d)
digit_no_newline d h = grind (arith, nat_tests)

spelled_no_newline : (b : ℕ) → b < 256 → All NotNewline (spelled b)
spelled_no_newline b h = by (is_plain b) refl
  where
    by : (t : Bool) → is_plain b ≡ t → All NotNewline (cond t (b ∷ []) (percent ∷ upper_digit (b / 16) ∷ upper_digit (b % 16) ∷ []))
    by true e = All-cons NotNewline b [] (plain_no_newline b e) (All-nil NotNewline)
    by false e =
        let low = upper_digit (b % 16) in
        let high = upper_digit (b / 16) in
        All-cons NotNewline percent (high ∷ low ∷ []) refl
        (All-cons NotNewline high (low ∷ []) (digit_no_newline (b / 16) (omega arith))
        (All-cons NotNewline low [] (digit_no_newline (b % 16) (omega arith)) (All-nil NotNewline)))

escaped_no_newline : (word : List ℕ) → AreBytes word → All NotNewline (escaped word)
escaped_no_newline [] h = All-nil NotNewline
escaped_no_newline (b ∷ bs) h = All-append NotNewline (spelled b) (escaped bs) (spelled_no_newline b h.0) (escaped_no_newline bs h.1)

written_no_newline : (words : List (List ℕ)) → AreWords words → All NotNewline (written words)
written_no_newline [] h = All-nil NotNewline
written_no_newline (word ∷ []) h = escaped_no_newline word h.1
written_no_newline (word ∷ next ∷ words) h =
    All-append NotNewline (escaped word) (space ∷ written (next ∷ words)) (escaped_no_newline word h.1)
    (All-cons NotNewline space (written (next ∷ words)) refl (written_no_newline (next ∷ words) h.2))

written_parts : (words : List (List ℕ)) (lines : List (List (List ℕ))) → AllByRecursion AreWords (words ∷ lines) → parts_of (join_with_byte newline (map written (words ∷ lines))) ≡ map written (words ∷ lines)
written_parts words [] h = slice_split_none (λ b. b == newline) (written words) (written_no_newline words h.0)
written_parts words (next ∷ lines) h =
    slice_split_at (λ b. b == newline) (written words) newline (join_with_byte newline (map written (next ∷ lines))) (written_no_newline words h.0) refl
    ∙ ap (λ parts. written words ∷ parts) (written_parts next lines h.1)

have_written : (lines : List (List (List ℕ))) → AllByRecursion AreWords lines → HaveWords (map written lines) lines
have_written [] h = tt
have_written (words ∷ lines) h = (ap (map (λ i. i.word)) (written_read Canonical words h.0) ∙ words_placed 0 words, have_written lines h.1)

pub have_words : (words : List (List ℕ)) (lines : List (List (List ℕ))) → AllByRecursion AreWords (words ∷ lines) → HaveWords (parts_of (join_with_byte newline (map written (words ∷ lines)))) (words ∷ lines)
have_words words lines h = subst (λ parts. HaveWords parts (words ∷ lines)) (sym (written_parts words lines h)) (have_written (words ∷ lines) h)
