use Rattle.mode_rules.proofs.PlanPaths.{keeps_apart}
use Rattle.mode_rules.proofs.laws.points_lie_apart.Goals as goal

pub returns : goal.returns
returns c = keeps_apart
