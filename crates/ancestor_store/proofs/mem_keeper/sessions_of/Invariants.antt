use Rattle.std.proofs.Common.{◌≡◌, ◌+◌, ◌≤◌, length}
use Rattle.ancestor_store.specs.MemCompacting.{sessions_of}
use Rattle.ancestor_store.proofs.mem_keeper.sessions_of.Given as goal

-- the number so far, and the frames to come
abbrev pub invariant-loop-one : goal.invariant-loop-one
invariant-loop-one l = (l.number + sessions_of l.rest ≡ sessions_of l.fn.kept) × (l.number + length l.rest ≤ length l.fn.kept)

abbrev pub decreases-loop-one : goal.decreases-loop-one
decreases-loop-one l = length l.rest
