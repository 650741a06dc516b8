use Rattle.std.proofs.Common.{ap, sym, subst, ◌∙◌}
use Rattle.stage_core.proofs.Telling.{told_one}
use Rattle.stage_core.specs.Staging.{op_of, turned}
use Rattle.stage_core.specs.Told.{IsAnswered, StagingTold, state_of}
use Rattle.stage_core.proofs.staging.Staging.take.Goals as goal

pub invariant_of-self-in-Ok : goal.invariant_of-self-in-Ok
invariant_of-self-in-Ok c =
    told_one c.self.inside.side c.self.inside.needs c.self.inside.answers c.push.new.self c.self.inside.work c.take.new.self c.args.answer c.self.invariant
    (subst (λ (m : StagingTold). IsAnswered (op_of (state_of m)) c.args.answer) (sym c.self.view_is) c.requires)
    c.in_ok-push.ensures.ok
    (c.in-Ok.ensures.ok ∙ ap (turned c.self.inside.side c.self.inside.work) c.of.ensures)
