use Rattle.worker_pool.proofs.InOneOrder.{pushes, learns}
use Rattle.worker_pool.proofs.ready.Ready.push.Goals as goal

pub push_as-requires-clause-rule : goal.push_as-requires-clause-rule
push_as-requires-clause-rule g c = (pushes _ _ _ _ c.args.self.now.sized, learns _ _)
