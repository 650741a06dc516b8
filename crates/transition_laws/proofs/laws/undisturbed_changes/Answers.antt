use Rattle.transition_laws.proofs.Undisturbed.{undisturbed_leaves, undisturbed_problems}
use Rattle.transition_laws.proofs.laws.undisturbed_changes.Goals as goal

pub returns-clause-leaves : goal.returns-clause-leaves
returns-clause-leaves c = undisturbed_leaves

pub returns-clause-problems : goal.returns-clause-problems
returns-clause-problems c = undisturbed_problems
