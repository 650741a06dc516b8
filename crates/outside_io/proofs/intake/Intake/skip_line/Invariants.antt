use Rattle.std.proofs.Common.{◌≡◌, ◌-◌, ◌<◌, ◌≤◌, []}
use Rattle.outside_io.specs.Lines.{TakesNoLine}
use Rattle.outside_io.specs.Taking.{CountsTaken}
use Rattle.outside_io.proofs.intake.Intake.skip_line.Given as goal
use Rattle.outside_io.specs.declared.limits.TheConstants.{MOST_TAKEN}

abbrev pub invariant-loop-self : goal.invariant-loop-self
invariant-loop-self g l = record {
  line : l.self.line ≡ [];
  room : (l.self.room ≡ l.fn.self.room) × (0 < l.self.room);
  passed : TakesNoLine (g.S.Source.left l.fn.source) (g.S.Source.left l.source);
  taken : (l.fn.self.taken ≤ l.self.taken) × (l.self.taken ≤ MOST_TAKEN);
  counted : CountsTaken (g.S.Source.left l.fn.source) l.fn.self.taken (g.S.Source.left l.source) l.self.taken;
  counts : g.S.Source.faults l.fn.source ≤ g.S.Source.faults l.source;
}

abbrev pub decreases-loop-self : goal.decreases-loop-self
decreases-loop-self g l = MOST_TAKEN - l.self.taken
