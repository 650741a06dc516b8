use Rattle.std.proofs.Common.{length}
use Rattle.ancestor_store.specs.MemCompacting.{InCourse}
use Rattle.ancestor_store.proofs.mem_compacting.compacted_kept.Given as goal

abbrev pub invariant-loop-one : goal.invariant-loop-one
invariant-loop-one l = InCourse l.opened l.fn.kept l.new.items l.rest

abbrev pub decreases-loop-one : goal.decreases-loop-one
decreases-loop-one l = length l.rest
