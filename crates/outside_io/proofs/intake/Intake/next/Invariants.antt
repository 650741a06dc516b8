use Rattle.std.proofs.Common.{◌≡◌, ◌+◌, ◌-◌, ◌<◌, ◌≤◌, ◌++◌, length}
use Rattle.std.specs.Io.KnownBytes.{Keeps}
use Rattle.outside_io.specs.Taking.{rest_of_taking, CountsTaken}
use Rattle.outside_io.proofs.Turns.{IsTurn}
use Rattle.outside_io.proofs.intake.Intake.next.Given as goal
use Rattle.outside_io.specs.declared.limits.TheConstants.{MOST_TAKEN}

abbrev pub invariant-loop-place : goal.invariant-loop-place
invariant-loop-place g l = record {
  room : 0 < l.self.room;
  kept : Keeps (rest_of_taking l.fn.self (g.S.Source.left l.fn.source)) (rest_of_taking l.self (g.S.Source.left l.source));
  sum : length (l.self.line ++ l.self.held) + l.fn.self.taken ≡ length (l.fn.self.line ++ l.fn.self.held) + l.self.taken;
  taken : l.fn.self.taken ≤ l.self.taken;
  counted : CountsTaken (g.S.Source.left l.fn.source) l.fn.self.taken (g.S.Source.left l.source) l.self.taken;
  turn : IsTurn l.fn.self l.fn.source l.self l.source;
  counts : g.S.Source.faults l.fn.source ≤ g.S.Source.faults l.source;
}

abbrev pub decreases-loop-place : goal.decreases-loop-place
decreases-loop-place g l = MOST_TAKEN - l.self.taken
