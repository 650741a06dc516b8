use Rattle.cycle_core.specs.Changing.{IsOverTo}
use Rattle.cycle_core.proofs.changing.over_from.Given as goal

-- those before are over
abbrev pub invariant-loop-at : goal.invariant-loop-at
invariant-loop-at l = IsOverTo l.at l.courses.items
