-- The names that a user gives to a session or to a client.
use Rattle.std.specs.Prelude.{ℕ, Bool, false, ◌&&◌, ◌||◌, not, nat_le, nat_eq, List, [], ◌∷◌, length, codes, IsTrue}
use Rattle.std.specs.List.{list_all, starts_with}
use Rattle.command_words.specs.Ascii.{is_letter, is_name_byte}
use Rattle.command_words.specs.declared.given_name.TheConstants.{MAX_GIVEN_NAME_LEN}

abbrev pub begins_with_letter : List ℕ → Bool
begins_with_letter [] = false
begins_with_letter (b ∷ bs) = is_letter b

-- the beginnings that are kept for identifiers
abbrev pub has_kept_prefix : List ℕ → Bool
has_kept_prefix word = starts_with nat_eq word (codes "sync_") || starts_with nat_eq word (codes "fwrd_")

-- a letter, then letters, digits, `-` and `_`, at most 64 in all, which don't begin as an identifier does
abbrev pub is_given_name : List ℕ → Bool
is_given_name word =
    begins_with_letter word && (list_all is_name_byte word && (nat_le (length word) MAX_GIVEN_NAME_LEN && not (has_kept_prefix word)))

abbrev pub IsGivenName : List ℕ → Type 0
IsGivenName word = IsTrue (is_given_name word)
