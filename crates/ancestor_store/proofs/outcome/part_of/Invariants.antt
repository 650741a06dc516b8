use Rattle.ancestor_store.specs.Settling.{IsPart}
use Rattle.ancestor_store.proofs.outcome.part_of.Given as goal

abbrev pub invariant-loop-line : goal.invariant-loop-line
invariant-loop-line l = IsPart l.part l.tree
