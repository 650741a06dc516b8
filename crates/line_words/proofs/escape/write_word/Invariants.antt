use Rattle.std.proofs.Common.{◌≡◌, ◌++◌, take, string_bytes}
use Rattle.line_words.specs.Spelling.{escaped}
use Rattle.line_words.proofs.escape.write_word.Given as goal

abbrev pub invariant-loop-b : goal.invariant-loop-b
invariant-loop-b l = string_bytes l.text ≡ string_bytes l.initial.text ++ escaped (take l.b-index l.word)
