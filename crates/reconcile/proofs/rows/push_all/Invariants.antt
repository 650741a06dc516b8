use Rattle.std.proofs.Common.{◌≡◌, ◌++◌, drop}
use Rattle.reconcile.proofs.rows.push_all.Given as goal

-- what was added, and what is still to be added, is all of it
abbrev pub invariant-rows : goal.invariant-rows
invariant-rows l = l.all.items ++ drop l.row-index l.rows ≡ l.initial.all.items ++ l.rows
