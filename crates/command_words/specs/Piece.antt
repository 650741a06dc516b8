-- The words that are written into a line.
use Rattle.std.specs.Prelude.{ℕ, List, ◌∷◌, ◌++◌}
use Rattle.std.specs.Fmt.{decimal}
use Rattle.std.specs.List.{flat_map}
use Rattle.hex.specs.Hex.{encode_lower}
use Rattle.line_words.specs.Spelling.{escaped, space}
use Rattle.entry_tree.specs.PathWord.{path_word}
use Rattle.command_words.specs.Contents.{contents_word}
use Rattle.command_words.specs.Identifier.{identifier_word}
use Rattle.command_words.specs.Label.{label_word}
use Rattle.command_words.specs.Session.{session_word}
use Rattle.command_words.specs.declared.piece.Piece.{Piece}
use Rattle.command_words.specs.declared.piece.Piece.TheVariants.{Bytes, Digits, Id, Labelled, Number, Place, Session, Setting, Text}

-- the word of a piece
abbrev pub piece_word : Piece → List ℕ
piece_word (Text text) = text.now
piece_word (Number number) = decimal number
piece_word (Id identifier) = identifier_word identifier
piece_word (Session session) = session_word session.now
piece_word (Labelled label) = label_word label.now
piece_word (Place path) = path_word path.now
piece_word (Digits digest) = encode_lower digest.now
piece_word (Bytes bytes) = contents_word bytes.now
piece_word (Setting option value) = option.now ++ value.now

-- a word as it stands behind another in a line: a space and the word
abbrev pub next_word : List ℕ → List ℕ
next_word word = space ∷ escaped word

-- words as they stand behind another in a line
abbrev pub next_words : List (List ℕ) → List ℕ
next_words words = flat_map next_word words

-- pieces as they stand behind a word in a line
abbrev pub next_pieces : List Piece → List ℕ
next_pieces pieces = flat_map (λ piece. next_word (piece_word piece)) pieces
