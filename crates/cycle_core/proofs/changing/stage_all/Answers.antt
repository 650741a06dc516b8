use Rattle.std.proofs.Common.{length, subst, ◌<◌}
use Rattle.cycle_core.specs.Changing.{staged_on}
use Rattle.cycle_core.proofs.Front.{set_next}
use Rattle.cycle_core.proofs.changing.stage_all.Goals as goal

pub loop-steps-preserved : goal.loop-steps-preserved
loop-steps-preserved c =
    set_next (staged_on c.args.side c.args.missing.now) c.loop-steps.steps-items c.args.courses.now.items c.loop-steps.steps-index _ c.stage_one.new.steps
    c.loop-steps.invariant (subst (λ xs. c.loop-steps.steps-index < length xs) c.deref_mut-steps-items.ensures.value c.loop-steps-test.true) c.stage_one.ensures
