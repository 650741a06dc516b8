use Rattle.std.proofs.Common.{length}
use Rattle.frame_text.proofs.NumberWords.{Counted}
use Rattle.frame_text.proofs.numbers.read_numbers.Given as goal

abbrev pub invariant-loop-word : goal.invariant-loop-word
invariant-loop-word l = Counted l.fn.words l.numbers l.words

abbrev pub decreases-loop-word : goal.decreases-loop-word
decreases-loop-word l = length l.words
