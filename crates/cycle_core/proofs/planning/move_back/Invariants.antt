use Rattle.std.proofs.Common.{◌≡◌, ◌++◌, ◌+◌, ◌≤◌, length, reverse}
use Rattle.std.specs.Vec.{vec_capacity}
use Rattle.cycle_core.proofs.planning.move_back.Given as goal

-- the lines so far, and those that are left, which there is room for and as many of as turns are
abbrev pub invariant-loop : goal.invariant-loop
invariant-loop l =
    (l.out.items ++ reverse l.lines ≡ l.fn.out.items ++ reverse l.fn.lines)
    × (length l.out.items + length l.lines ≤ vec_capacity l.out)
    × (vec_capacity l.out ≡ vec_capacity l.fn.out)
    × (length l.lines + l.counter ≡ length l.fn.lines)
