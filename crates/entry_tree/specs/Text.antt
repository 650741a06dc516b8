-- Which bytes make the text of a symbolic link.
use Rattle.std.specs.Prelude.{ℕ, Bool, ◌&&◌, List, length, nat_le, IsTrue}
use Rattle.std.specs.Str.{is_utf8}
use Rattle.entry_tree.specs.declared.text.TheConstants.{MAX_TEXT_LEN}

-- as many bytes as a text may have
abbrev pub has_text_len : List ℕ → Bool
has_text_len bs = nat_le 1 (length bs) && nat_le (length bs) MAX_TEXT_LEN

-- bytes that make a text: UTF-8 of 1 to 4,096 bytes
abbrev pub is_text : List ℕ → Bool
is_text bs = is_utf8 bs && has_text_len bs

-- these bytes make a text
abbrev pub IsText : List ℕ → Type 0
IsText bs = IsTrue (is_text bs)
