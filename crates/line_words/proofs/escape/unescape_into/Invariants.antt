use Rattle.std.proofs.Common.{◌≡◌, length, take}
use Rattle.std.specs.Prelude.{◌≤◌}
use Rattle.line_words.specs.Spelling.{unescaped}
use Rattle.line_words.proofs.Unescaping.{behind_of}
use Rattle.line_words.proofs.escape.unescape_into.Given as goal

abbrev pub invariant-loop-rest : goal.invariant-loop-rest
invariant-loop-rest l = (length l.room ≡ length l.fn.room) × (l.len ≤ length l.room) × (unescaped l.reading l.spelling ≡ behind_of (take l.len l.room) (unescaped l.reading l.rest))

abbrev pub decreases-loop-rest : goal.decreases-loop-rest
decreases-loop-rest l = length l.rest
