use Rattle.std.proofs.lemmas.Str.Pattern.{strip_prefix_char}
use Rattle.std.specs.Prelude.{None}
use Rattle.ignore_glob.proofs.Ends.{begins_no}
use Rattle.ignore_glob.proofs.text.take_off.Goals as goal

pub returns-in-None-clause-begins : goal.returns-in-None-clause-begins
returns-in-None-clause-begins c = (begins_no c.args.c c.args.text.now (strip_prefix_char c.args.c c.args.text.now None c.in-None.ensures.cases c.requires)).0

pub returns-in-None-clause-rest : goal.returns-in-None-clause-rest
returns-in-None-clause-rest c = (begins_no c.args.c c.args.text.now (strip_prefix_char c.args.c c.args.text.now None c.in-None.ensures.cases c.requires)).1
