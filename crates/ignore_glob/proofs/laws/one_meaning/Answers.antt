use Rattle.ignore_glob.proofs.Readings as readings
use Rattle.ignore_glob.proofs.laws.one_meaning.Goals as goal

pub returns : goal.returns
returns c = readings.one_meaning
