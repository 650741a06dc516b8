use Rattle.ignore_glob.proofs.Readings as readings
use Rattle.ignore_glob.proofs.laws.one_place.Goals as goal

pub returns : goal.returns
returns c = readings.one_fault
