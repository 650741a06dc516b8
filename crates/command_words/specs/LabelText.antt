-- The keys and values of labels.
use Rattle.std.specs.Prelude.{ℕ, Bool, ◌&&◌, nat_le, List, length, IsTrue}
use Rattle.std.specs.List.{list_all}
use Rattle.command_words.specs.Ascii.{is_label_byte}
use Rattle.command_words.specs.declared.label_text.TheConstants.{MAX_LABEL_TEXT_LEN}

-- 1 to 63 letters, digits, `-`, `_` and `.`
abbrev pub is_label_text : List ℕ → Bool
is_label_text word = nat_le 1 (length word) && (nat_le (length word) MAX_LABEL_TEXT_LEN && list_all is_label_byte word)

abbrev pub IsLabelText : List ℕ → Type 0
IsLabelText word = IsTrue (is_label_text word)
