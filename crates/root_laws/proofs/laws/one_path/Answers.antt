use Rattle.root_laws.proofs.OnePath.{changes_one, places_digest}
use Rattle.root_laws.proofs.laws.one_path.Goals as goal

pub returns-clause-path : goal.returns-clause-path
returns-clause-path c = changes_one

pub returns-clause-digest : goal.returns-clause-digest
returns-clause-digest c = places_digest
