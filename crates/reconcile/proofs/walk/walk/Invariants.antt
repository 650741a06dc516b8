use Rattle.std.proofs.Common.{◌≤◌, ◌-◌, length, drop}
use Rattle.mode_rules.specs.Sights.{trees_of}
use Rattle.reconcile.proofs.RowSteps.{IsWalkedRows}
use Rattle.reconcile.proofs.walk.walk.Given as goal

-- what is decided so far, and the rows that are left
abbrev pub invariant-rows : goal.invariant-rows
invariant-rows l = (l.at ≤ length l.rows) × IsWalkedRows l.mode (trees_of l.sight) (drop l.at l.rows) l.decided

abbrev pub decreases-rows : goal.decreases-rows
decreases-rows l = length l.rows - l.at
