use Rattle.root_laws.proofs.Stamping.{contents_stay, atoms_stay, new_is_new}
use Rattle.root_laws.proofs.laws.stamps.Goals as goal

pub returns-clause-contents : goal.returns-clause-contents
returns-clause-contents c = contents_stay

pub returns-clause-atoms : goal.returns-clause-atoms
returns-clause-atoms c = atoms_stay

pub returns-clause-new : goal.returns-clause-new
returns-clause-new c = new_is_new
