use Rattle.std.proofs.Common.{◌≡◌, ◌++◌, ◌+◌, ◌≤◌, length}
use Rattle.std.specs.Vec.{vec_capacity}
use Rattle.std.specs.Vec.Iter.{into_iter_items}
use Rattle.cycle_core.proofs.changing.land_all.Given as goal

-- the lines so far, and those to come; there is room for these
abbrev pub invariant-loop-line : goal.invariant-loop-line
invariant-loop-line l =
    (l.lines.items ++ into_iter_items l.line-iterator ≡ l.initial.lines.items ++ into_iter_items l.initial.line-iterator)
    × (length l.lines.items + length (into_iter_items l.line-iterator) ≤ vec_capacity l.lines)
    × (vec_capacity l.lines ≡ vec_capacity l.initial.lines)
