use Rattle.worker_pool.proofs.Working.{begins_on, same_on, works_on}
use Rattle.worker_pool.proofs.worker.work.Goals as goal

pub loop-preserved-then-serve_one : goal.loop-preserved-then-serve_one
loop-preserved-then-serve_one g c = let now = c.serve_one.ensures in let was = c.loop.invariant in (
  tt,
  tt,
  same_on c.args.pass.now c.loop.pass c.serve_one.new.pass was.2 now.pass,
  begins_on _ _ _ was.3 now.moves,
  works_on g.T.Task.identity _ _ _ was.4 now.mine,
)

pub loop-preserved : goal.loop-preserved
loop-preserved g c = let now = c.serve_one.ensures in let was = c.loop.invariant in (
  tt,
  tt,
  same_on c.args.pass.now c.loop.pass c.serve_one.new.pass was.2 now.pass,
  begins_on _ _ _ was.3 now.moves,
  works_on g.T.Task.identity _ _ _ was.4 now.mine,
)
