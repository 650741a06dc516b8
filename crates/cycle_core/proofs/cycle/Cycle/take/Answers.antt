use Rattle.std.proofs.Common.{Some, [], ◌∷◌, ◌++◌, sym, ap, ◌∙◌}
use Rattle.cycle_core.specs.declared.request.Taken.{Taken}
use Rattle.cycle_core.proofs.Stepping.{machine_after, may_be_told, steps_to, turn_as}
use Rattle.cycle_core.proofs.cycle.Cycle.take.Goals as goal

pub invariant_of-self : goal.invariant_of-self
invariant_of-self c =
    machine_after _ _ _ _ c.self.invariant c.in-Some.stand (Some c.args.told) c.turned-came.result c.turned-came.new.caches _ _ (sym c.take.ensures.value ∙ c.in-Some.is)
    (may_be_told _ _ _ _ c.self.invariant c.in-Some.stand c.args.told c.args.self.now c.self.view_is (sym c.take.ensures.value ∙ c.in-Some.is) c.requires, c.turned-came.ensures)
    (c.replace.ensures.after ∙ c.parted-stand.ensures.stand)
    (c.push.ensures ∙ ap (λ (told : Taken). c.self.inside.history ++ turn_as (Some told) c.turned-came.result c.turned-came.new.caches ∷ []) c.of-heard.ensures)

pub returns-in-Some : goal.returns-in-Some
returns-in-Some c =
    steps_to _ _ _ _ c.self.invariant c.in-Some.stand (Some c.args.told) c.turned-came.result c.turned-came.new.caches _ _ c.args.self.now c.self.view_is (sym c.take.ensures.value ∙ c.in-Some.is)
    (may_be_told _ _ _ _ c.self.invariant c.in-Some.stand c.args.told c.args.self.now c.self.view_is (sym c.take.ensures.value ∙ c.in-Some.is) c.requires, c.turned-came.ensures)
    c.parted-stand.ensures.progress
    (c.push.ensures ∙ ap (λ (told : Taken). c.self.inside.history ++ turn_as (Some told) c.turned-came.result c.turned-came.new.caches ∷ []) c.of-heard.ensures)
