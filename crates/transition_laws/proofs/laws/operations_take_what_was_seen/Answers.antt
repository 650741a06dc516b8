use Rattle.transition_laws.proofs.Taking.{each_takes_only_seen}
use Rattle.transition_laws.proofs.laws.operations_take_what_was_seen.Goals as goal

pub returns : goal.returns
returns c = each_takes_only_seen
