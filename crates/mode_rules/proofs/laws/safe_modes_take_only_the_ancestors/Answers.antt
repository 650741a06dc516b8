use Rattle.mode_rules.specs.Plans.{points_of}
use Rattle.mode_rules.proofs.PlanLaws.{all_kept}
use Rattle.mode_rules.proofs.Licences.{two_way_takes, one_way_takes}
use Rattle.mode_rules.proofs.laws.safe_modes_take_only_the_ancestors.Goals as goal

pub returns-clause-two_way : goal.returns-clause-two_way
returns-clause-two_way c = λ t. all_kept _ _ (two_way_takes t) (points_of t)

pub returns-clause-one_way : goal.returns-clause-one_way
returns-clause-one_way c = λ t. all_kept _ _ (one_way_takes t) (points_of t)
