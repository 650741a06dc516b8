-- The lines of a reply.
use Rattle.std.specs.Prelude.{ℕ, List, [], ◌∷◌, ◌++◌, codes}
use Rattle.line_words.specs.Spelling.{space}
use Rattle.command_words.specs.Piece.{next_words}

-- the byte that ends a line: LF
abbrev pub newline : ℕ
newline = 10

-- the first line of an answer: `ok`, and these words, each behind a space
abbrev pub ok_line : List (List ℕ) → List ℕ
ok_line words = codes "ok" ++ (next_words words ++ newline ∷ [])

-- the line of a refusal: `refused`, and these words, each behind a space
abbrev pub refused_line : List (List ℕ) → List ℕ
refused_line words = codes "refused" ++ (next_words words ++ newline ∷ [])

-- a line of detail: a space, and these words, each behind a space; so the line begins with two
abbrev pub detail_line : List (List ℕ) → List ℕ
detail_line words = space ∷ (next_words words ++ newline ∷ [])
