use Rattle.std.specs.Vec.{vec_capacity}
use Rattle.transition_plan.proofs.Skipping.{Skips}
use Rattle.transition_plan.proofs.blocking.skip_blocked.Given as goal

abbrev pub invariant-turns : goal.invariant-turns
invariant-turns l = Skips l.fn.rest.items l.rest.items l.fn.undone.items l.undone.items l.folder (vec_capacity l.undone) l.counter l.end
