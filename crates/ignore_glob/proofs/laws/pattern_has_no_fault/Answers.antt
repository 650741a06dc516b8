use Rattle.ignore_glob.proofs.Readings as readings
use Rattle.ignore_glob.proofs.laws.pattern_has_no_fault.Goals as goal

pub returns : goal.returns
returns c = readings.pattern_has_no_fault
