use Rattle.std.proofs.Common.{length}
use Rattle.request_text.specs.States.{IsRead}
use Rattle.request_text.proofs.read.read_words.Given as goal

abbrev pub invariant-loop-word : goal.invariant-loop-word
invariant-loop-word l = IsRead l.fn.words l.state l.words

abbrev pub decreases-loop-word : goal.decreases-loop-word
decreases-loop-word l = length l.words
