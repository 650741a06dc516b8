use Rattle.roots_api.specs.States.{new_root}
use Rattle.root_laws.proofs.Beginnings.{legal_split, legal_join}
use Rattle.root_laws.proofs.laws.prefixes.Goals as goal

pub returns-clause-beginnings : goal.returns-clause-beginnings
returns-clause-beginnings c log more legal = legal_split new_root log more legal

pub returns-clause-longer : goal.returns-clause-longer
returns-clause-longer c log more legal behind = legal_join new_root log more legal behind
