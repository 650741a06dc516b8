use Rattle.ignore_glob.proofs.Readings.{accepts, refuses}
use Rattle.ignore_glob.proofs.pattern.Pattern.read.Goals as goal

pub returns-clause-accepted : goal.returns-clause-accepted
returns-clause-accepted c = λ p is. accepts c.args.text.now c.read_pattern.result p c.read_pattern.ensures is

pub returns-clause-refused : goal.returns-clause-refused
returns-clause-refused c = λ place is. refuses c.args.text.now c.read_pattern.result place c.read_pattern.ensures is
