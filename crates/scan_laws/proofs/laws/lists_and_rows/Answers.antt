use Rattle.scan_laws.proofs.Bounding.{lists_bounded, rows_counted}
use Rattle.scan_laws.proofs.Fetches.{fetches_bounded, lists_and_fetches}
use Rattle.scan_laws.proofs.laws.lists_and_rows.Goals as goal

pub returns-clause-lists : goal.returns-clause-lists
returns-clause-lists c = lists_bounded

pub returns-clause-rows : goal.returns-clause-rows
returns-clause-rows c = rows_counted

pub returns-clause-both : goal.returns-clause-both
returns-clause-both c = lists_and_fetches

pub returns-clause-fetches : goal.returns-clause-fetches
returns-clause-fetches c = fetches_bounded
