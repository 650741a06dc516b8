use Rattle.cycle_law.proofs.Forgotten.{forgets_its_last}
use Rattle.cycle_law.proofs.laws.the_last_frame_may_be_lost.Goals as goal

pub returns : goal.returns
returns c = forgets_its_last
