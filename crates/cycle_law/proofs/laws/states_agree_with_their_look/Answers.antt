use Rattle.cycle_law.proofs.Looks.{hidden_is_below, look_is_tree, state_agrees}
use Rattle.cycle_law.proofs.laws.states_agree_with_their_look.Goals as goal

pub returns-clause-agrees : goal.returns-clause-agrees
returns-clause-agrees c = state_agrees

pub returns-clause-tree : goal.returns-clause-tree
returns-clause-tree c = look_is_tree

pub returns-clause-hidden : goal.returns-clause-hidden
returns-clause-hidden c = hidden_is_below
