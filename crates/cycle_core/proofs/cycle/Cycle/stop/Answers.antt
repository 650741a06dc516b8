use Rattle.std.proofs.Common.{None, refl, sym, ◌∙◌}
use Rattle.cycle_core.proofs.Stepping.{machine_after, steps_to}
use Rattle.cycle_core.proofs.cycle.Cycle.stop.Goals as goal

pub invariant_of-self : goal.invariant_of-self
invariant_of-self c =
    machine_after _ _ _ _ c.self.invariant c.in-Some.stand None c.stopped-came.result c.self.inside.caches _ _ (sym c.take.ensures.value ∙ c.in-Some.is) (c.stopped-came.ensures, refl)
    (c.replace.ensures.after ∙ c.parted-stand.ensures.stand) c.push.ensures

pub returns-in-Some : goal.returns-in-Some
returns-in-Some c =
    steps_to _ _ _ _ c.self.invariant c.in-Some.stand None c.stopped-came.result c.self.inside.caches _ _ c.args.self.now c.self.view_is (sym c.take.ensures.value ∙ c.in-Some.is) (c.stopped-came.ensures, refl)
    c.parted-stand.ensures.progress c.push.ensures
