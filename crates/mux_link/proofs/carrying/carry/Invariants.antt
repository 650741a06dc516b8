use Rattle.std.proofs.Common.{◌-◌, ◌≤◌}
use Rattle.mux_link.specs.Posts.{seen}
use Rattle.mux_link.specs.Moves.{Went}
use Rattle.mux_link.proofs.carrying.carry.Given as goal

-- what is left is what didn't go over yet
abbrev pub invariant-loop-left : goal.invariant-loop-left
invariant-loop-left l = (l.left ≤ l.count) × Went (seen l.fn.from) (seen l.fn.to) (l.count - l.left) (seen l.from) (seen l.to)

abbrev pub decreases-loop-left : goal.decreases-loop-left
decreases-loop-left l = l.left
