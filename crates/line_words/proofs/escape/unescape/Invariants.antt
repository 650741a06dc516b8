use Rattle.std.proofs.Common.{◌≡◌, length}
use Rattle.line_words.specs.Spelling.{unescaped}
use Rattle.line_words.proofs.Unescaping.{behind_of}
use Rattle.line_words.proofs.escape.unescape.Given as goal

abbrev pub invariant-loop-rest : goal.invariant-loop-rest
invariant-loop-rest l = unescaped l.reading l.spelling ≡ behind_of l.bytes.items (unescaped l.reading l.rest)

abbrev pub decreases-loop-rest : goal.decreases-loop-rest
decreases-loop-rest l = length l.rest
