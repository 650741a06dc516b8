use Rattle.session_table.proofs.Repeated.{repeats_acted, repeats_last}
use Rattle.session_table.proofs.laws.a_repeated_line_makes_no_step.Goals as goal

pub returns-clause-last : goal.returns-clause-last
returns-clause-last c = repeats_last

pub returns-clause-acted : goal.returns-clause-acted
returns-clause-acted c = repeats_acted
