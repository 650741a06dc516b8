use Rattle.std.proofs.lemmas.Str.Pattern.{strip_suffix_char}
use Rattle.std.specs.Prelude.{None, Some}
use Rattle.ignore_glob.proofs.Ends.{ends_yes, ends_no}
use Rattle.ignore_glob.proofs.text.take_off_end.Goals as goal

pub returns-in-Some-clause-ends : goal.returns-in-Some-clause-ends
returns-in-Some-clause-ends c = (ends_yes c.args.c c.args.text.now c.in-Some.rest.now (strip_suffix_char c.args.c c.args.text.now (Some c.in-Some.rest) c.in-Some.ensures.cases c.requires)).0

pub returns-in-Some-clause-rest : goal.returns-in-Some-clause-rest
returns-in-Some-clause-rest c = (ends_yes c.args.c c.args.text.now c.in-Some.rest.now (strip_suffix_char c.args.c c.args.text.now (Some c.in-Some.rest) c.in-Some.ensures.cases c.requires)).1

pub returns-in-None-clause-ends : goal.returns-in-None-clause-ends
returns-in-None-clause-ends c = (ends_no c.args.c c.args.text.now (strip_suffix_char c.args.c c.args.text.now None c.in-None.ensures.cases c.requires)).0

pub returns-in-None-clause-rest : goal.returns-in-None-clause-rest
returns-in-None-clause-rest c = (ends_no c.args.c c.args.text.now (strip_suffix_char c.args.c c.args.text.now None c.in-None.ensures.cases c.requires)).1
