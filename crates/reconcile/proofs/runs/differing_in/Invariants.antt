use Rattle.std.proofs.Common.{◌≡◌, ◌++◌, drop}
use Rattle.reconcile.specs.Runs.{row_differing}
use Rattle.reconcile.proofs.runs.differing_in.Given as goal

-- what was found, and what is still to be found, is all that is to be found
abbrev pub invariant-loop-row : goal.invariant-loop-row
invariant-loop-row l = l.found ++ row_differing l.side (drop l.row-index l.run) ≡ row_differing l.side l.run
