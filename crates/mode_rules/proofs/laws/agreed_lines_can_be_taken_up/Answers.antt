use Rattle.mode_rules.proofs.Agreeing.{agreed_fold}
use Rattle.mode_rules.proofs.laws.agreed_lines_can_be_taken_up.Goals as goal

pub returns : goal.returns
returns c = λ mode t closed tracked. agreed_fold mode t closed tracked
