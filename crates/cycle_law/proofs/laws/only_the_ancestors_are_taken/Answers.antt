use Rattle.cycle_law.proofs.Licensed.{takes_the_ancestors}
use Rattle.cycle_law.proofs.laws.only_the_ancestors_are_taken.Goals as goal

pub returns : goal.returns
returns c = takes_the_ancestors
