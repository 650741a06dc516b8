-- How a line is cut into words, and which texts are names of roots and sessions.
use Rattle.std.specs.Prelude.{ℕ, Bool, false, ◌&&◌, ◌||◌, not, ◌==◌, nat_lt, nat_le, List, [], ◌∷◌, length, map, drop, codes, nat_eq}
use Rattle.std.specs.List.{list_all, slice_split, starts_with}
use Rattle.std.specs.Str.{bytes_eq}

-- a byte that a word may hold: from 0x21 to 0x7E, but for `%`
abbrev pub is_plain : ℕ → Bool
is_plain b = nat_le 0x21 b && (nat_le b 0x7e && not (b == 0x25))

-- a word is not empty, and holds plain bytes
abbrev pub is_word : List ℕ → Bool
is_word word = nat_lt 0 (length word) && list_all is_plain word

-- the parts of a line between its spaces
abbrev pub words_of : List ℕ → List (List ℕ)
words_of line = slice_split (λ b. b == 0x20) line

-- the name of a root: up to 4,096 bytes that don't begin as an option does
abbrev pub is_root : List ℕ → Bool
is_root word = nat_le (length word) 4096 && not (starts_with nat_eq word (codes "--"))

abbrev pub is_letter : ℕ → Bool
is_letter b = (nat_le 0x41 b && nat_le b 0x5a) || (nat_le 0x61 b && nat_le b 0x7a)

abbrev pub is_digit : ℕ → Bool
is_digit b = nat_le 0x30 b && nat_le b 0x39

-- a byte of a session's name behind the first
abbrev pub is_name_byte : ℕ → Bool
is_name_byte b = is_letter b || (is_digit b || (b == 0x2d || b == 0x5f))

-- the beginnings that are kept for identifiers
abbrev pub has_kept_prefix : List ℕ → Bool
has_kept_prefix word = starts_with nat_eq word (codes "sync_") || starts_with nat_eq word (codes "fwrd_")

abbrev pub begins_with_letter : List ℕ → Bool
begins_with_letter [] = false
begins_with_letter (b ∷ bs) = is_letter b

-- a session's name: a letter, then letters, digits, `-` and `_`, at most 64 in all, and no identifier's beginning
abbrev pub is_session_name : List ℕ → Bool
is_session_name word =
    begins_with_letter word && (list_all is_name_byte word && (nat_le (length word) 64 && not (has_kept_prefix word)))

abbrev pub is_hex : ℕ → Bool
is_hex b = is_digit b || (nat_le 0x61 b && nat_le b 0x66)

-- a UUID: groups of 8, 4, 4, 4 and 12 lower-case hexadecimal digits between hyphens
abbrev pub uuid_groups : List ℕ → List (List ℕ)
uuid_groups text = slice_split (λ b. b == 0x2d) text

abbrev pub is_uuid : List ℕ → Bool
is_uuid text =
    bytes_eq (map length (uuid_groups text)) (8 ∷ 4 ∷ 4 ∷ 4 ∷ 12 ∷ []) && list_all (list_all is_hex) (uuid_groups text)

-- a session's identifier, or a forwarding session's
abbrev pub is_identifier : List ℕ → Bool
is_identifier word = has_kept_prefix word && is_uuid (drop 5 word)
