use Rattle.mode_rules.proofs.Turning.{plan_turned}
use Rattle.mode_rules.proofs.laws.two_way_safe_treats_sides_alike.Goals as goal

pub returns : goal.returns
returns c = plan_turned
