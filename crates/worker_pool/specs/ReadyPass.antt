-- Which queue a pass of ready tasks belongs to.
use Rattle.crossbeam_queue.specs.Passes.{Pass, IsPassOf}
use Rattle.worker_pool.specs.declared.moves.Seen.{Seen}
use Rattle.worker_pool.specs.declared.ready.Ready.{Ready}

-- the pass is one of this queue
abbrev pub BelongsTo : {T : Type 0} → Ready T → Pass T (Seen T) → Type 0
BelongsTo ready pass = IsPassOf ready.queue pass
