use Rattle.worker_pool.proofs.InOneOrder.{forks}
use Rattle.worker_pool.proofs.ready.Ready.split.Goals as goal

pub another-requires-clause-rule : goal.another-requires-clause-rule
another-requires-clause-rule g c = forks _ _
