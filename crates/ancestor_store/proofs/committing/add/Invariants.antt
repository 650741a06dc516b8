use Rattle.std.proofs.Common.{length}
use Rattle.ancestor_store.specs.Settling.{IsFront}
use Rattle.ancestor_store.proofs.committing.add.Given as goal

abbrev pub invariant-loop-line : goal.invariant-loop-line
invariant-loop-line l = IsFront l.fn.lines l.rest l.fn.tree l.tree

abbrev pub decreases-loop-line : goal.decreases-loop-line
decreases-loop-line l = length l.rest
