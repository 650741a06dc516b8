use Rattle.mode_rules.proofs.Meeting.{meets_at_changes, meets_at_points}
use Rattle.mode_rules.proofs.laws.sides_meet_point_by_point.Goals as goal

pub returns-clause-at_changes : goal.returns-clause-at_changes
returns-clause-at_changes c = meets_at_changes

pub returns-clause-at_points : goal.returns-clause-at_points
returns-clause-at_points c = meets_at_points
