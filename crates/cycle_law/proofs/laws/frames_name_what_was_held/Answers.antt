use Rattle.cycle_law.proofs.Held.{names_what_was_held}
use Rattle.cycle_law.proofs.laws.frames_name_what_was_held.Goals as goal

pub returns : goal.returns
returns c = names_what_was_held
