-- Lines of words, each behind a space: the bytes tell the words.
use Rattle.std.proofs.Common.{◌≡◌, ℕ, true, List, [], ◌∷◌, ◌++◌, refl, sym, ap₂, ◌∙◌, append_assoc}
use Rattle.std.specs.List.{flat_map}
use Rattle.line_words.specs.Spelling.{escaped, space}
use Rattle.command_words.specs.Cuts.{has_no}
use Rattle.command_words.specs.Piece.{next_words}
use Rattle.command_words.proofs.Cutting.{one_cut}
use Rattle.reply_text.specs.Lines.{detail_line, newline}
use Rattle.reply_laws.specs.Words.{spelt}
use Rattle.reply_laws.proofs.Escapes.{BeginsNext, escaped_no_newline, no_newline_append, word_told}

next_begins : (words : List (List ℕ)) → BeginsNext (next_words words)
next_begins [] = tt
next_begins (word ∷ words) = refl

next_no_newline : (words : List (List ℕ)) → has_no newline (next_words words) ≡ true
next_no_newline [] = refl
next_no_newline (word ∷ words) = no_newline_append (space ∷ escaped word) (next_words words) (escaped_no_newline word) (next_no_newline words)

pub words_told : (words others : List (List ℕ)) → next_words words ≡ next_words others → words ≡ others
words_told [] [] e = refl
words_told [] (other ∷ others) e = absurd (cc)
words_told (word ∷ words) [] e = absurd (cc)
words_told (word ∷ words) (other ∷ others) e =
    let behind : escaped word ++ next_words words ≡ escaped other ++ next_words others = cc in
    let found = word_told word other (next_words words) (next_words others) (next_begins words) (next_begins others) behind in
    ap₂ (λ w ws. w ∷ ws) found.0 (words_told words others found.1)

-- the words of a line and what stands behind its LF
line_told : (words others : List (List ℕ)) (x y : List ℕ) → next_words words ++ newline ∷ x ≡ next_words others ++ newline ∷ y → (words ≡ others) × (x ≡ y)
line_told words others x y e =
    let cut = one_cut newline (next_words words) x (next_words others) y e (next_no_newline words) (next_no_newline others) in
    (words_told words others cut.0, cut.1)

pub details_told : (details others : List (List (List ℕ))) → flat_map detail_line details ≡ flat_map detail_line others → details ≡ others
details_told [] [] e = refl
details_told [] (other ∷ others) e = absurd (cc)
details_told (words ∷ details) [] e = absurd (cc)
details_told (words ∷ details) (other ∷ others) e =
    let behind : (next_words words ++ newline ∷ []) ++ flat_map detail_line details ≡ (next_words other ++ newline ∷ []) ++ flat_map detail_line others = cc in
    let found =
    line_told words other (flat_map detail_line details) (flat_map detail_line others)
    (sym (append_assoc (next_words words) (newline ∷ []) (flat_map detail_line details)) ∙ behind ∙ append_assoc (next_words other) (newline ∷ []) (flat_map detail_line others)) in
    ap₂ (λ w ws. w ∷ ws) found.0 (details_told details others found.1)

pub spelt_told : (first other : List (List ℕ)) (details others : List (List (List ℕ))) → spelt first details ≡ spelt other others → (first ≡ other) × (details ≡ others)
spelt_told first other details others e =
    let found = line_told first other (flat_map detail_line details) (flat_map detail_line others) e in
    (found.0, details_told details others found.1)
