use Rattle.std.proofs.Common.{sym, ap, ◌∙◌}
use Rattle.cycle_core.proofs.Taking.{staging_taken, staging_untaken}
use Rattle.cycle_core.specs.Going.{outcome_asked}
use Rattle.cycle_core.specs.UnderWay.{UnderWay, stages_next}
use Rattle.cycle_core.proofs.turning.staged.Goals as goal

pub returns-in-Ok : goal.returns-in-Ok
returns-in-Ok c =
    staging_taken c.args.setup.now c.args.supply c.in-Ok.work c.args.answer c.outcome_by-outcome.result _ c.in-Ok.ensures.ok
    (c.outcome_by-outcome.ensures ∙ sym (ap (λ p. outcome_asked p c.args.answer) c.supply.invariant.0)
    ∙ ap (λ (w : UnderWay). outcome_asked (stages_next w) c.args.answer) c.supply.view_is)
    c.staged_by.ensures

pub returns-in-Err : goal.returns-in-Err
returns-in-Err c = staging_untaken c.args.setup.now c.args.supply c.in-Err.work c.args.answer _ c.in-Err.ensures.err c.broken.ensures
