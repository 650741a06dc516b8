use Rattle.worker_pool.specs.ReadyPass.{BelongsTo}
use Rattle.worker_pool.proofs.tests.threads.enter_all.Given as goal

abbrev pub invariant-loop-id : goal.invariant-loop-id
invariant-loop-id g l = BelongsTo l.ready l.pass
