use Rattle.scan_laws.proofs.Meeting.{asks_what_points_say, sees_what_points_say, whole_sees_seen_tree, asks_a_scans_list}
use Rattle.scan_laws.proofs.Whole.{whole_has_no_next, whole_is_whole_scan}
use Rattle.scan_laws.proofs.laws.points_of_scans.Goals as goal

pub returns-clause-asks : goal.returns-clause-asks
returns-clause-asks c = asks_what_points_say

pub returns-clause-sees : goal.returns-clause-sees
returns-clause-sees c = sees_what_points_say

pub returns-clause-whole : goal.returns-clause-whole
returns-clause-whole c = whole_sees_seen_tree

pub returns-clause-list : goal.returns-clause-list
returns-clause-list c = asks_a_scans_list

pub returns-clause-next : goal.returns-clause-next
returns-clause-next c = whole_has_no_next

pub returns-clause-scan : goal.returns-clause-scan
returns-clause-scan c = whole_is_whole_scan
