use Rattle.std.proofs.Common.{◌≡◌, take}
use Rattle.mem_roots.proofs.checks.rows_below.Given as goal

abbrev pub invariant-loop-child : goal.invariant-loop-child
invariant-loop-child l = l.rows ≡ take l.child-index l.child-items
