use Rattle.std.proofs.Common.{◌≡◌, ◌++◌, string_bytes}
use Rattle.line_words.specs.Spelling.{escaped}
use Rattle.sync_path.proofs.TextParts.{slashed}
use Rattle.entry_tree.specs.PathWord.{path_word}
use Rattle.entry_tree.proofs.path_word.write_path.Given as goal

-- what is written and what the names that are left add are the whole word
abbrev pub invariant-loop-name : goal.invariant-loop-name
invariant-loop-name l = string_bytes l.text ++ escaped (slashed l.name-iterator) ≡ string_bytes l.fn.text ++ escaped (path_word l.path)
