use Rattle.std.proofs.Common.{◌∙◌}
use Rattle.transition_plan.proofs.InOrder.{first_told}
use Rattle.transition_plan.proofs.blocking.is_first_blocked.Goals as goal

pub returns : goal.returns
returns c = c.is_first_held.ensures ∙ first_told c.args.undone.now c.args.folder c.args.rest.now.items c.requires
