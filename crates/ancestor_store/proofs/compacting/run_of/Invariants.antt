use Rattle.std.proofs.Common.{◌≡◌, ◌+◌, ◌≤◌, min, length}
use Rattle.frame_text.specs.declared.head.TheConstants.{MAX_RUN}
use Rattle.ancestor_store.specs.Compacting.{opened_of}
use Rattle.ancestor_store.specs.Keeping.{bytes_of}
use Rattle.ancestor_store.proofs.compacting.run_of.Given as goal

-- the number so far, and the frames to come
abbrev pub invariant-loop-frame : goal.invariant-loop-frame
invariant-loop-frame l = (l.opened ≤ MAX_RUN) × (min (l.opened + opened_of (bytes_of l.rest)) MAX_RUN ≡ min (opened_of (bytes_of l.fn.frames)) MAX_RUN)

abbrev pub decreases-loop-frame : goal.decreases-loop-frame
decreases-loop-frame l = length l.rest
