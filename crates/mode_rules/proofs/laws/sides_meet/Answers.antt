use Rattle.mode_rules.proofs.Meeting.{safe_meets, resolved_meets, replica_meets}
use Rattle.mode_rules.proofs.laws.sides_meet.Goals as goal

pub returns-clause-safe : goal.returns-clause-safe
returns-clause-safe c = safe_meets

pub returns-clause-resolved : goal.returns-clause-resolved
returns-clause-resolved c = resolved_meets

pub returns-clause-replica : goal.returns-clause-replica
returns-clause-replica c = replica_meets
