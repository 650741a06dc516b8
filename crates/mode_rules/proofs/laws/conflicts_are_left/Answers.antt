use Rattle.mode_rules.proofs.Meeting.{conflicts_left}
use Rattle.mode_rules.proofs.laws.conflicts_are_left.Goals as goal

pub returns : goal.returns
returns c = conflicts_left
