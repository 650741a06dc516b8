use Rattle.std.proofs.Common.{refl}
use Rattle.scan_laws.proofs.laws.worked_lists.Goals as goal

pub returns-clause-file : goal.returns-clause-file
returns-clause-file c = (refl, refl, refl, refl)

pub returns-clause-large : goal.returns-clause-large
returns-clause-large c = (refl, refl, refl, refl, refl)

pub returns-clause-changed : goal.returns-clause-changed
returns-clause-changed c = (refl, refl)

pub returns-clause-became : goal.returns-clause-became
returns-clause-became c = (refl, refl)

pub returns-clause-ignored : goal.returns-clause-ignored
returns-clause-ignored c = (refl, refl, refl)

pub returns-clause-order : goal.returns-clause-order
returns-clause-order c = refl

pub returns-clause-limit : goal.returns-clause-limit
returns-clause-limit c = (refl, refl)
