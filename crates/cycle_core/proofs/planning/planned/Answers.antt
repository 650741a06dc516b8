use Rattle.std.proofs.Common.{sym, ap, ◌∙◌}
use Rattle.mode_rules.specs.declared.report.Outcome.TheVariants.{Halted}
use Rattle.cycle_core.specs.declared.stand.Next.TheVariants.{Ends}
use Rattle.cycle_core.proofs.Memories.{full, planless, planned_works}
use Rattle.cycle_core.specs.Planning.{planned}
use Rattle.cycle_core.proofs.planning.planned.Goals as goal

pub returns-in-Err : goal.returns-in-Err
returns-in-Err c = (planless, c.ended_early.ensures)

pub returns-in-Ok-Halts : goal.returns-in-Ok-Halts
returns-in-Ok-Halts c = (
  full,
  ap (λ cs. Ends (record { cycle = c.args.tag.cycle; outcome = Halted c.in-Ok-Halts.halt; conflicts = cs; problems = c.in-Ok-Halts.problems })) c.new.ensures
      ∙ ap (λ m. planned c.args.tag.run c.args.tag.cycle full m) (sym c.in-Ok-Halts.field-0-is ∙ c.in-Ok-Halts.ensures),
)

pub returns-in-Ok-Works : goal.returns-in-Ok-Works
returns-in-Ok-Works c = planned_works c.args.tag.run c.args.tag.cycle c.in-Ok-Works.work _ _ (sym c.in-Ok-Works.field-0-is ∙ c.in-Ok-Works.ensures) c.to_stages.ensures
