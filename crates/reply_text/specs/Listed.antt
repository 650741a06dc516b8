-- The entries that a reply lists, and how they are spelt.
use Rattle.std.specs.Prelude.{ℕ, List, ◌∷◌}
use Rattle.entry_tree.specs.AtomText.{words_of}
use Rattle.entry_tree.specs.PathWord.{path_word}
use Rattle.reply_text.specs.Lines.{detail_line}
use Rattle.reply_text.specs.declared.listed.Listed.{Listed}

-- the words of an entry: its path and its atom
abbrev pub listed_words : Listed → List (List ℕ)
listed_words listed = path_word listed.path ∷ words_of listed.atom

-- the line of an entry
unfoldable pub listed_line : Listed → List ℕ
listed_line listed = detail_line (listed_words listed)
