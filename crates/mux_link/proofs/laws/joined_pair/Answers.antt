use Rattle.mux_link.proofs.Whole.{pair_in_order, pair_all_there, pair_at_the_end, pair_in_balance, pair_whole}
use Rattle.mux_link.proofs.laws.joined_pair.Goals as goal

pub returns-clause-order : goal.returns-clause-order
returns-clause-order c = pair_in_order

pub returns-clause-rest : goal.returns-clause-rest
returns-clause-rest c = pair_all_there

pub returns-clause-end : goal.returns-clause-end
returns-clause-end c = pair_at_the_end

pub returns-clause-credit : goal.returns-clause-credit
returns-clause-credit c = pair_in_balance

pub returns-clause-link : goal.returns-clause-link
returns-clause-link c = pair_whole
