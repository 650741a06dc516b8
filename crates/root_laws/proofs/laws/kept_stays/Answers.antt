use Rattle.root_laws.proofs.Keeping.{kept_stays}
use Rattle.root_laws.proofs.laws.kept_stays.Goals as goal

pub returns : goal.returns
returns c = kept_stays
