use Rattle.mode_rules.proofs.Nothing.{nothing_left}
use Rattle.mode_rules.proofs.laws.nothing_is_left_to_do.Goals as goal

pub returns : goal.returns
returns c = nothing_left
