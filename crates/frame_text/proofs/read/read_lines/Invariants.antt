use Rattle.frame_text.specs.Payloads.{IsWithin, parts_from, room_of}
use Rattle.frame_text.proofs.Bodies.{Progress}
use Rattle.frame_text.proofs.read.read_lines.Given as goal

abbrev pub invariant-loop-next : goal.invariant-loop-next
invariant-loop-next l = IsWithin l.text l.next × Progress l.version (parts_from l.text l.fn.from) l.lines (parts_from l.text l.next)

abbrev pub decreases-loop-next : goal.decreases-loop-next
decreases-loop-next l = room_of l.text l.next
