use Rattle.forward_core.proofs.Eras.{session_in_order, session_all_there, session_at_the_end, session_in_balance, session_whole}
use Rattle.forward_core.proofs.laws.session_link.Goals as goal

pub returns-clause-order : goal.returns-clause-order
returns-clause-order c = session_in_order

pub returns-clause-rest : goal.returns-clause-rest
returns-clause-rest c = session_all_there

pub returns-clause-end : goal.returns-clause-end
returns-clause-end c = session_at_the_end

pub returns-clause-credit : goal.returns-clause-credit
returns-clause-credit c = session_in_balance

pub returns-clause-link : goal.returns-clause-link
returns-clause-link c = session_whole
