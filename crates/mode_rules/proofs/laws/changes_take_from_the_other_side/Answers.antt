use Rattle.mode_rules.specs.Plans.{points_of}
use Rattle.mode_rules.proofs.Changing.{takes_from_other}
use Rattle.mode_rules.proofs.PlanLaws.{all_kept}
use Rattle.mode_rules.proofs.laws.changes_take_from_the_other_side.Goals as goal

pub returns : goal.returns
returns c = λ mode t closed. all_kept _ _ (λ p. takes_from_other t closed p mode) (points_of t)
