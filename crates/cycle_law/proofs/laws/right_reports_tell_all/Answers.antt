use Rattle.cycle_law.proofs.Told.{done_tells_all, halt_is_exact}
use Rattle.cycle_law.proofs.laws.right_reports_tell_all.Goals as goal

pub returns-clause-done : goal.returns-clause-done
returns-clause-done c = done_tells_all

pub returns-clause-halt : goal.returns-clause-halt
returns-clause-halt c = halt_is_exact
