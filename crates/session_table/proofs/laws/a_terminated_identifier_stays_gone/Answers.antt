use Rattle.session_table.proofs.Sound.{stays_gone}
use Rattle.session_table.proofs.laws.a_terminated_identifier_stays_gone.Goals as goal

pub returns : goal.returns
returns c = λ id m ops gone. stays_gone id ops m gone
