-- Lines that ask for nothing.
use Rattle.std.specs.Prelude.{ℕ, Bool, true, ◌==◌, cond, List, [], ◌∷◌}
use Rattle.line_words.specs.Spelling.{space}

-- a line holds only spaces, or its first other byte is `#` (35)
abbrev pub is_skipped : List ℕ → Bool
is_skipped [] = true
is_skipped (b ∷ bs) = cond (b == space) (is_skipped bs) (b == 35)
