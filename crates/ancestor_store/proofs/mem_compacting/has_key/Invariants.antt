use Rattle.std.proofs.Common.{◌≡◌, length}
use Rattle.ancestor_store.specs.MemCompacting.{has_key}
use Rattle.ancestor_store.proofs.mem_compacting.has_key.Given as goal

abbrev pub invariant-loop-one : goal.invariant-loop-one
invariant-loop-one l = has_key l.key l.fn.kept ≡ has_key l.key l.rest

abbrev pub decreases-loop-one : goal.decreases-loop-one
decreases-loop-one l = length l.rest
