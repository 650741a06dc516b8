use Rattle.root_laws.proofs.Viewing.{get-view, views_closed}
use Rattle.root_laws.proofs.laws.view.Goals as goal

pub returns-clause-point : goal.returns-clause-point
returns-clause-point c = get-view

pub returns-clause-closed : goal.returns-clause-closed
returns-clause-closed c = views_closed
