use Rattle.worker_pool.proofs.InOneOrder.{pops, learns}
use Rattle.worker_pool.proofs.ready.Ready.pop.Goals as goal

pub pop_as-requires-clause-rule : goal.pop_as-requires-clause-rule
pop_as-requires-clause-rule g c = (pops _ _, learns _ _)
