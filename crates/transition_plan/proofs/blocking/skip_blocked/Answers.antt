use Rattle.std.proofs.Common.{rules}
use Rattle.std.specs.Vec.{vec_capacity}
use Rattle.transition_plan.proofs.Skipping.{turned}
use Rattle.transition_plan.proofs.blocking.skip_blocked.Goals as goal

pub turns-preserved : goal.turns-preserved
turns-preserved c =
    turned c.args.rest.now.items c.turns.rest.items c.skip_first.new.rest.items c.args.undone.now.items c.turns.undone.items c.skip_first.new.undone.items c.args.folder
    (vec_capacity c.turns.undone) (vec_capacity c.skip_first.new.undone) c.turns.counter c.len-end.result
    c.turns.invariant (search rules) c.skip_first.ensures.skipped c.skip_first.ensures.capacity
