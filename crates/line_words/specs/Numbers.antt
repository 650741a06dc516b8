-- Numbers: two hexadecimal digits as a byte, and what a decimal number does not begin with.
use Rattle.std.specs.Prelude.{ℕ, ◌==◌, ◌&&◌, Bool, true, not, List, [], ◌∷◌, Option, None}
use Rattle.line_words.specs.Spelling.{digit_value, pair_value}

-- the byte that two hexadecimal digits write, in either case
abbrev pub byte_value : List ℕ → Option ℕ
byte_value [] = None
byte_value (c ∷ []) = None
byte_value (high ∷ low ∷ []) = pair_value (digit_value high) (digit_value low)
byte_value (a ∷ b ∷ c ∷ cs) = None

-- no `+` (43) stands first, and no `0` (48) stands before others
abbrev pub is_bare : List ℕ → Bool
is_bare [] = true
is_bare (c ∷ []) = not (c == 43)
is_bare (c ∷ d ∷ ds) = not (c == 43) && not (c == 48)
