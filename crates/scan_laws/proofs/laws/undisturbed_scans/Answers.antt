use Rattle.scan_laws.proofs.Looking.{undisturbed_sees_look}
use Rattle.scan_laws.proofs.Rows.{ends_by_rows_alone, whole_lists_look_rows}
use Rattle.scan_laws.proofs.laws.undisturbed_scans.Goals as goal

pub returns-clause-look : goal.returns-clause-look
returns-clause-look c = undisturbed_sees_look

pub returns-clause-rows : goal.returns-clause-rows
returns-clause-rows c = whole_lists_look_rows

pub returns-clause-ends : goal.returns-clause-ends
returns-clause-ends c = ends_by_rows_alone
