use Rattle.cycle_law.proofs.Found.{may_find_one_more}
use Rattle.cycle_law.proofs.laws.a_refused_frame_may_be_found.Goals as goal

pub returns : goal.returns
returns c = may_find_one_more
