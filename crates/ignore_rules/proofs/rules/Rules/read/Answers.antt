use Rattle.std.proofs.Common.{map}
use Rattle.std.specs.Prelude.{string_bytes}
use Rattle.ignore_rules.proofs.ReadingRules.{accepts, refuses}
use Rattle.ignore_rules.proofs.rules.Rules.read.Goals as goal

pub returns-clause-accepted : goal.returns-clause-accepted
returns-clause-accepted c = λ rules is. accepts c.args.vcs (map string_bytes c.args.texts.now) c.read_rules.result rules c.read_rules.ensures is

pub returns-clause-refused : goal.returns-clause-refused
returns-clause-refused c = λ index place is. refuses c.args.vcs (map string_bytes c.args.texts.now) c.read_rules.result index place c.read_rules.ensures is
