-- How the bytes of a word are spelt by a writer, and what a reader makes of a spelling.
use Rattle.std.specs.Prelude.{ℕ, ◌+◌, ◌-◌, ◌*◌, ◌/◌, ◌%◌, ◌==◌, ◌&&◌, Bool, cond, not, nat_le, nat_lt, List, [], ◌∷◌, map, Option, Some, None}
use Rattle.std.specs.List.{flat_map, join_with_byte}
use Rattle.std.specs.Option.{option_map}
use Rattle.line_words.specs.declared.reading.Reading.{Reading}
use Rattle.line_words.specs.declared.reading.Reading.TheVariants.{Free, Canonical}

abbrev pub space : ℕ
space = 32

abbrev pub percent : ℕ
percent = 37

-- ---- writing

-- a byte that a writer writes as itself: 0x21 to 0x7E, other than `%`
abbrev pub is_plain : ℕ → Bool
is_plain b = nat_le 33 b && nat_le b 126 && not (b == percent)

-- the hexadecimal digit of a number below 16, in upper case: 48 is `0`, and 65 is `A`
abbrev pub upper_digit : ℕ → ℕ
upper_digit d = cond (nat_lt d 10) (48 + d) (55 + d)

-- a byte as a writer spells it
abbrev pub spelled : ℕ → List ℕ
spelled b = cond (is_plain b) (b ∷ []) (percent ∷ upper_digit (b / 16) ∷ upper_digit (b % 16) ∷ [])

-- a word as a writer spells it
abbrev pub escaped : List ℕ → List ℕ
escaped word = flat_map spelled word

-- a line of words as a writer writes it: one space between each two
abbrev pub written : List (List ℕ) → List ℕ
written words = join_with_byte space (map escaped words)

-- ---- reading

-- a byte that stands for itself: read freely, each from 0x21 on other than `%` and 0x7F; canonically, just what a writer leaves
abbrev pub stands : Reading → ℕ → Bool
stands Free b = nat_le 33 b && not (b == 127) && not (b == percent)
stands Canonical b = is_plain b

-- the number of an upper-case hexadecimal digit
abbrev pub upper_value : ℕ → Option ℕ
upper_value c = cond (nat_le 48 c && nat_le c 57) (Some (c - 48)) (cond (nat_le 65 c && nat_le c 70) (Some (c - 55)) None)

-- the number of a hexadecimal digit in either case
abbrev pub digit_value : ℕ → Option ℕ
digit_value c = cond (nat_le 97 c && nat_le c 102) (Some (c - 87)) (upper_value c)

-- the byte of the numbers of two digits
abbrev pub pair_value : Option ℕ → Option ℕ → Option ℕ
pair_value None low = None
pair_value (Some high) None = None
pair_value (Some high) (Some low) = Some (16 * high + low)

-- a byte that need not be escaped may not be
abbrev pub unless_plain : Option ℕ → Option ℕ
unless_plain None = None
unless_plain (Some b) = cond (is_plain b) None (Some b)

-- the byte that two digits behind a `%` stand for
abbrev pub escape_value : Reading → ℕ → ℕ → Option ℕ
escape_value Free high low = pair_value (digit_value high) (digit_value low)
escape_value Canonical high low = unless_plain (pair_value (upper_value high) (upper_value low))

-- a byte before the others, where there is one, and where they are read
abbrev pub onto : Option ℕ → Option (List ℕ) → Option (List ℕ)
onto None word = None
onto (Some b) word = option_map (λ bs. b ∷ bs) word

-- The bytes that a spelling stands for: a byte that stands for itself, or a `%` and two digits, and so on; none where it's no spelling.
abbrev pub unescaped : Reading → List ℕ → Option (List ℕ)
unescaped reading [] = Some []
unescaped reading (b ∷ []) = cond (stands reading b) (Some (b ∷ [])) None
unescaped reading (b ∷ c ∷ []) = cond (stands reading b) (onto (Some b) (unescaped reading (c ∷ []))) None
unescaped reading (b ∷ c ∷ d ∷ rest) =
    cond (stands reading b) (onto (Some b) (unescaped reading (c ∷ d ∷ rest)))
    (cond (b == percent) (onto (escape_value reading c d) (unescaped reading rest)) None)

-- The word that a spelling stands for. A word is never empty: the empty word can't be spelt.
abbrev pub word_of : Reading → List ℕ → Option (List ℕ)
word_of reading [] = None
word_of reading (b ∷ bs) = unescaped reading (b ∷ bs)
