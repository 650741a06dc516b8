use Rattle.crossbeam_queue.specs.Passes.{view, IsSamePass}
use Rattle.finite_maps.specs.Lists.{BeginsWith}
use Rattle.worker_pool.specs.Work.{WorksFrom}
use Rattle.worker_pool.proofs.worker.work.Given as goal

abbrev pub invariant-loop : goal.invariant-loop
invariant-loop g l =
    (goal.iterator-loop g).can_next l.iterator' × (goal.iterator-loop g).is_finite l.iterator'
    × IsSamePass l.initial.pass l.pass
    × BeginsWith (view l.pass).moves (view l.initial.pass).moves
    × WorksFrom g.T.Task.identity (view l.initial.pass).mine (view l.pass).mine
