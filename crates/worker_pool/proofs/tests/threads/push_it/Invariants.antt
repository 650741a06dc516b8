use Rattle.worker_pool.specs.ReadyPass.{BelongsTo}
use Rattle.worker_pool.proofs.tests.threads.push_it.Given as goal

abbrev pub invariant-loop : goal.invariant-loop
invariant-loop g l = (goal.iterator-loop g).can_next l.iterator' × (goal.iterator-loop g).is_finite l.iterator' × BelongsTo l.ready l.pass
