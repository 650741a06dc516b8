use Rattle.session_table.proofs.Distinct.{found_by_name, has_its_name}
use Rattle.session_table.proofs.Sound.{found_by_id}
use Rattle.session_table.proofs.laws.a_live_session_is_found.Goals as goal

pub returns-clause-identifier : goal.returns-clause-identifier
returns-clause-identifier c = λ m sound. found_by_id m

pub returns-clause-name : goal.returns-clause-name
returns-clause-name c = λ m sound id s kind name. found_by_name m.live id s kind name sound.1

pub returns-clause-no_other : goal.returns-clause-no_other
returns-clause-no_other c = λ m sound id kind name. has_its_name m.live id kind name sound.1
