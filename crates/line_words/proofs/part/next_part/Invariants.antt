use Rattle.std.proofs.Common.{◌≡◌}
use Rattle.line_words.specs.Steps.{IsWithin, left_of, room_of}
use Rattle.line_words.proofs.part.next_part.Given as goal

abbrev pub invariant-loop-next : goal.invariant-loop-next
invariant-loop-next l = IsWithin l.line l.next × (left_of l.reading l.line l.initial.next ≡ left_of l.reading l.line l.next)

abbrev pub decreases-loop-next : goal.decreases-loop-next
decreases-loop-next l = room_of l.line l.next
