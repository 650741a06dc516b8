-- The places of words in the line that a writer writes of them.
use Rattle.std.specs.Prelude.{ℕ, ◌+◌, List, [], ◌∷◌, length, Some}
use Rattle.line_words.specs.Lines.{Item}
use Rattle.line_words.specs.Spelling.{escaped}

-- each word as it is read, where the first begins at this place: the next one begins behind it and a space
abbrev pub placed : ℕ → List (List ℕ) → List Item
placed at [] = []
placed at (word ∷ words) = record { place = at; word = Some word } ∷ placed (at + length (escaped word) + 1) words
