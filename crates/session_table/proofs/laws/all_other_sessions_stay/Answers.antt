use Rattle.session_table.proofs.Sound.{others_stay}
use Rattle.session_table.proofs.laws.all_other_sessions_stay.Goals as goal

pub returns : goal.returns
returns c = others_stay
