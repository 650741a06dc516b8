use Rattle.std.proofs.Common.{vec_len}
use Rattle.ancestor_store.specs.Settling.{IsPart}
use Rattle.ancestor_store.proofs.outcome.copy_above.Given as goal

abbrev pub invariant-loop-path : goal.invariant-loop-path
invariant-loop-path l = IsPart l.initial.part l.tree → IsPart l.part l.tree

abbrev pub decreases-loop-path : goal.decreases-loop-path
decreases-loop-path l = vec_len l.missing
