use Rattle.mode_rules.specs.Plans.{points_of}
use Rattle.mode_rules.proofs.PlanLaws.{all_kept, safe_beta, replica_beta}
use Rattle.mode_rules.proofs.laws.one_way_modes_leave_alpha.Goals as goal

pub returns-clause-safe : goal.returns-clause-safe
returns-clause-safe c = λ t. all_kept _ _ (safe_beta t) (points_of t)

pub returns-clause-replica : goal.returns-clause-replica
returns-clause-replica c = λ t. all_kept _ _ (replica_beta t) (points_of t)
