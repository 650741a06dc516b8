-- Bytes in a word.
use Rattle.std.specs.Prelude.{ℕ, List, ◌∷◌}

-- `=` (61) and the bytes, of which there may be none
abbrev pub contents_word : List ℕ → List ℕ
contents_word bytes = 61 ∷ bytes
