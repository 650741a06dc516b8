use Rattle.root_laws.proofs.Piecing.{joined, all_counted}
use Rattle.root_laws.proofs.laws.pieces.Goals as goal

pub returns-clause-join : goal.returns-clause-join
returns-clause-join c content pieces are = joined content 0 pieces are

pub returns-clause-count : goal.returns-clause-count
returns-clause-count c = all_counted
