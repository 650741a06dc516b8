use Rattle.scan_laws.proofs.Seeing.{seen_closed, stamps_of_files}
use Rattle.scan_laws.proofs.laws.seen_trees.Goals as goal

pub returns-clause-closed : goal.returns-clause-closed
returns-clause-closed c = seen_closed

pub returns-clause-stamps : goal.returns-clause-stamps
returns-clause-stamps c = stamps_of_files
