use Rattle.cycle_law.proofs.Left.{undisturbed_is_left}
use Rattle.cycle_law.proofs.laws.undisturbed_changes_are_settled.Goals as goal

pub returns : goal.returns
returns c = undisturbed_is_left
