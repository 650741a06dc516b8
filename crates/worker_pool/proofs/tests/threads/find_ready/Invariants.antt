use Rattle.worker_pool.specs.ReadyPass.{BelongsTo}
use Rattle.worker_pool.proofs.tests.threads.find_ready.Given as goal

abbrev pub invariant-loop : goal.invariant-loop
invariant-loop g l = BelongsTo l.ready l.pass
