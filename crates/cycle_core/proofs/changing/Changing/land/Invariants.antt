use Rattle.std.proofs.Common.{◌≡◌, ◌++◌, ◌+◌, ◌≤◌, length}
use Rattle.std.specs.Vec.{vec_capacity}
use Rattle.std.specs.Vec.Iter.{into_iter_items}
use Rattle.cycle_core.specs.Changing.{all_landed}
use Rattle.cycle_core.proofs.changing.Changing.land.Given as goal

-- the lines so far, and those to come; there is room for these
abbrev pub invariant-loop-steps : goal.invariant-loop-steps
invariant-loop-steps l =
    (l.lines.items ++ all_landed (into_iter_items l.steps-iterator) ≡ l.initial.lines.items ++ all_landed (into_iter_items l.initial.steps-iterator))
    × (length l.lines.items + length (all_landed (into_iter_items l.steps-iterator)) ≤ vec_capacity l.lines)
