use Rattle.mode_rules.specs.Plans.{points_of}
use Rattle.mode_rules.proofs.Changing.{replaces_others}
use Rattle.mode_rules.proofs.PlanLaws.{all_kept}
use Rattle.mode_rules.proofs.laws.changes_replace_only_what_differs.Goals as goal

pub returns : goal.returns
returns c = λ mode t closed. all_kept _ _ (λ p. replaces_others t closed p mode) (points_of t)
