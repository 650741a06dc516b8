-- Each law, from what holds after every run.
use Rattle.mux_core.proofs.Everywhere.{accepts_all}
use Rattle.mux_core.proofs.Kept.{in_order, all_there, read_to_the_end, in_balance, whole}
use Rattle.mux_core.proofs.Progress.{moves_on}
use Rattle.mux_core.proofs.laws.joined_ends.Goals as goal

pub returns-clause-order : goal.returns-clause-order
returns-clause-order c = in_order

pub returns-clause-rest : goal.returns-clause-rest
returns-clause-rest c = all_there

pub returns-clause-end : goal.returns-clause-end
returns-clause-end c = read_to_the_end

pub returns-clause-credit : goal.returns-clause-credit
returns-clause-credit c = in_balance

pub returns-clause-link : goal.returns-clause-link
returns-clause-link c = whole

pub returns-clause-accepted : goal.returns-clause-accepted
returns-clause-accepted c steps w r = accepts_all steps w r

pub returns-clause-moves : goal.returns-clause-moves
returns-clause-moves c steps w r side count uncut uncut_there = moves_on steps w r side count uncut uncut_there
