use Rattle.std.proofs.Common.{◌≡◌, IfSome}
use Rattle.crossbeam_queue.specs.Passes.{view, IsSamePass}
use Rattle.worker_pool.proofs.worker.hand_on.Given as goal

abbrev pub invariant-loop : goal.invariant-loop
invariant-loop g l =
    (goal.iterator-loop g).can_next l.iterator' × (goal.iterator-loop g).is_finite l.iterator'
    × IsSamePass l.initial.pass l.pass
    × (view l.pass ≡ view l.initial.pass)
    × IfSome l.next (λ t. g.T.Task.identity t ≡ g.T.Task.identity l.fn.task)
