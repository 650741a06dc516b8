-- The words that name a root.
use Rattle.std.specs.Prelude.{ℕ, Bool, ◌&&◌, not, nat_le, nat_eq, List, length, codes, IsTrue}
use Rattle.std.specs.List.{starts_with}
use Rattle.std.specs.Str.{is_utf8}
use Rattle.command_words.specs.declared.root_name.TheConstants.{MAX_ROOT_NAME_LEN}

-- 1 to 4,096 bytes
abbrev pub has_root_name_len : List ℕ → Bool
has_root_name_len word = nat_le 1 (length word) && nat_le (length word) MAX_ROOT_NAME_LEN

-- 1 to 4,096 bytes that don't begin as an option does
abbrev pub has_root_name_form : List ℕ → Bool
has_root_name_form word = has_root_name_len word && not (starts_with nat_eq word (codes "--"))

-- UTF-8 in that form
abbrev pub is_root_name : List ℕ → Bool
is_root_name word = is_utf8 word && has_root_name_form word

abbrev pub IsRootName : List ℕ → Type 0
IsRootName word = IsTrue (is_root_name word)
