use Rattle.mode_rules.specs.Plans.{points_of}
use Rattle.mode_rules.proofs.PlanLaws.{all_kept}
use Rattle.mode_rules.proofs.Licences.{alpha_takes}
use Rattle.mode_rules.proofs.laws.alpha_loses_only_the_ancestors.Goals as goal

pub returns : goal.returns
returns c = λ mode t. all_kept _ _ (alpha_takes mode t) (points_of t)
