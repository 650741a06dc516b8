use Rattle.std.proofs.Common.{◌≡◌, ◌++◌, length}
use Rattle.ancestor_store.specs.Keeping.{bytes_of}
use Rattle.ancestor_store.specs.MemKept.{frames_of}
use Rattle.ancestor_store.proofs.mem_keeper.frames_of.Given as goal

abbrev pub invariant-loop-rest : goal.invariant-loop-rest
invariant-loop-rest l = frames_of l.key l.fn.kept ≡ bytes_of l.frames.items ++ frames_of l.key l.rest

abbrev pub decreases-loop-rest : goal.decreases-loop-rest
decreases-loop-rest l = length l.rest
