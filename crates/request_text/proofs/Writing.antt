-- Words that are written one behind another.
use Rattle.std.proofs.Common.{◌≡◌, ℕ, false, cond, List, [], ◌∷◌, ◌++◌, map, refl, sym, ap, ◌∙◌, append_assoc}
use Rattle.std.specs.Prelude.{◌==◌, decimal}
use Rattle.std.proofs.lemmas.List.{append-nil}
use Rattle.std.proofs.lemmas.Grind.{flat_map-append}
use Rattle.line_words.specs.Spelling.{escaped, space, written}
use Rattle.line_words.proofs.ReadBack.{written_around}
use Rattle.command_words.specs.Piece.{next_pieces, next_word, next_words, piece_word}
use Rattle.command_words.specs.declared.piece.Piece.{Piece}
use Rattle.request_text.specs.Settings.{setting_word, setting_words}
use Rattle.request_text.specs.declared.setting.Setting.{Setting}

-- a line is its first word, and the others each behind a space
pub line_is : (word : List ℕ) (words : List (List ℕ)) → written (word ∷ words) ≡ escaped word ++ next_words words
line_is word [] = sym (append-nil (escaped word))
line_is word (next ∷ words) = ap (λ bs. escaped word ++ space ∷ bs) (line_is next words)

-- pieces are written as their words
pub pieces_are : (pieces : List Piece) → next_pieces pieces ≡ next_words (map piece_word pieces)
pieces_are [] = refl
pieces_are (piece ∷ pieces) = ap (λ bs. next_word (piece_word piece) ++ bs) (pieces_are pieces)

-- words behind words
pub words_join : (words more : List (List ℕ)) → next_words (words ++ more) ≡ next_words words ++ next_words more
words_join words more = flat_map-append next_word words more

-- a line of a word and pieces
pub line_of_pieces : (old bytes after word : List ℕ) (pieces : List Piece) → bytes ≡ old ++ escaped word → after ≡ bytes ++ next_pieces pieces → after ≡ old ++ written (word ∷ map piece_word pieces)
line_of_pieces old bytes after word pieces first behind =
    behind ∙ ap (λ bs. bs ++ next_pieces pieces) first
    ∙ append_assoc old (escaped word) (next_pieces pieces)
    ∙ ap (λ bs. old ++ (escaped word ++ bs)) (pieces_are pieces)
    ∙ ap (λ bs. old ++ bs) (sym (line_is word (map piece_word pieces)))

-- an option whose value is a number, unless it's the default
pub limit_written : (most default : ℕ) (option digits old after : List ℕ) (setting : Setting) → setting_word setting ≡ option ++ decimal most → (most == default) ≡ false
    → digits ≡ decimal most → after ≡ old ++ next_words ((option ++ digits) ∷ []) → after ≡ old ++ next_words (setting_words (cond (most == default) [] (setting ∷ [])))
limit_written most default option digits old after setting word is number h =
    h ∙ ap (λ d. old ++ next_words ((option ++ d) ∷ [])) number
    ∙ ap (λ w. old ++ next_words (w ∷ [])) (sym word)
    ∙ ap (λ b. old ++ next_words (setting_words (cond b [] (setting ∷ [])))) (sym is)

-- a line of two words, some others, and two behind them, which are written one after another
pub create_written : (old start given all first verb : List ℕ) (settings : List (List ℕ)) (one two alpha beta : List ℕ) → start ≡ old ++ written (first ∷ verb ∷ []) → given ≡ start ++ next_words settings
    → one ≡ alpha → two ≡ beta → all ≡ given ++ next_words (one ∷ two ∷ []) → all ≡ old ++ written (first ∷ verb ∷ (settings ++ (alpha ∷ beta ∷ [])))
create_written old start given all first verb settings one two alpha beta begun set a b ended =
    let words : List (List ℕ) = settings ++ (alpha ∷ beta ∷ []) in
    let behind = next_words settings ++ next_words (alpha ∷ beta ∷ []) in
    let head : written (first ∷ verb ∷ []) ≡ escaped first ++ next_word verb = line_is first (verb ∷ []) ∙ ap (λ bs. escaped first ++ bs) (append-nil (next_word verb)) in
    let last : all ≡ given ++ next_words (alpha ∷ beta ∷ []) = ended ∙ ap (λ w. given ++ next_words (w ∷ two ∷ [])) a ∙ ap (λ w. given ++ next_words (alpha ∷ w ∷ [])) b in
    last
    ∙ ap (λ bs. bs ++ next_words (alpha ∷ beta ∷ [])) (set ∙ ap (λ bs. bs ++ next_words settings) (begun ∙ ap (λ bs. old ++ bs) head))
    ∙ append_assoc (old ++ (escaped first ++ next_word verb)) (next_words settings) (next_words (alpha ∷ beta ∷ []))
    ∙ append_assoc old (escaped first ++ next_word verb) behind
    ∙ ap (λ bs. old ++ bs) (append_assoc (escaped first) (next_word verb) behind
    ∙ ap (λ bs. escaped first ++ (next_word verb ++ bs)) (sym (words_join settings (alpha ∷ beta ∷ [])))
    ∙ sym (line_is first (verb ∷ words)))

-- a request behind its client
pub behind_client : (client : List ℕ) (number : List ℕ) (word : List ℕ) (words all : List (List ℕ)) → all ≡ word ∷ words
    → (written (client ∷ number ∷ []) ++ space ∷ []) ++ written all ≡ written ((client ∷ number ∷ []) ++ all)
behind_client client number word words all is =
    append_assoc (written (client ∷ number ∷ [])) (space ∷ []) (written all)
    ∙ ap (λ ws. written (client ∷ number ∷ []) ++ space ∷ written ws) is
    ∙ sym (written_around client word (number ∷ []) words)
    ∙ ap (λ ws. written ((client ∷ number ∷ []) ++ ws)) (sym is)
