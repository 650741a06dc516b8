use Rattle.std.proofs.Common.{sym, ◌∙◌}
use Rattle.cycle_core.proofs.Memories.{scan_broken, beta_asks, beta_rests}
use Rattle.entry_tree.specs.declared.side.Side.TheVariants.{Beta}
use Rattle.cycle_core.proofs.scanning.scan_beta.Goals as goal

pub returns-in-Err : goal.returns-in-Err
returns-in-Err c = scan_broken c.args.setup.now c.args.looks Beta _ c.ended_early.ensures

pub returns-in-Ok-Some : goal.returns-in-Ok-Some
returns-in-Ok-Some c = beta_asks c.args.setup.now c.args.looks c.in-Ok-Some.asked (sym c.in-Ok-Some.ensures.value ∙ c.in-Ok-Some.field-0-is)

pub returns-in-Ok-None : goal.returns-in-Ok-None
returns-in-Ok-None c = beta_rests c.args.setup.now c.args.looks _ (sym c.in-Ok-None.ensures.value ∙ c.in-Ok-None.field-0-is) c.planned.ensures
