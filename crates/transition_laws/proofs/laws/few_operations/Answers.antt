use Rattle.transition_laws.proofs.Few.{are_few}
use Rattle.transition_laws.proofs.laws.few_operations.Goals as goal

pub returns : goal.returns
returns c = are_few
