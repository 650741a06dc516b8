use Rattle.std.proofs.Common.{◌≡◌, ◌≤◌, ◌++◌, length, drop}
use Rattle.std.specs.FinMap as trees
use Rattle.reconcile.specs.Rows.{joined}
use Rattle.reconcile.proofs.rows.joined.Given as goal

-- what was added, and what the rows and entries that are left give, is the whole
abbrev pub invariant-entries : goal.invariant-entries
invariant-entries l =
    (l.at ≤ length l.rows)
    × (l.all.items ++ joined l.part (drop l.at l.rows) l.path-iterator ≡ joined l.part l.rows (trees.entries l.tree))
