use Rattle.mode_rules.specs.Plans.{points_of}
use Rattle.mode_rules.proofs.PlanLaws.{none_kept, equal_changes, equal_conflicts}
use Rattle.mode_rules.proofs.laws.equal_sides_are_left.Goals as goal

pub returns : goal.returns
returns c = λ mode t same. (
  none_kept _ (λ path. equal_changes mode t path same) (points_of t),
  none_kept _ (λ path. equal_conflicts mode t path same) (points_of t),
)
