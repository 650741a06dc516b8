use Rattle.transition_laws.proofs.Serving.{stages_alone, undisturbed_keeps}
use Rattle.transition_laws.proofs.laws.undisturbed_stagings.Goals as goal

pub returns-clause-keeps : goal.returns-clause-keeps
returns-clause-keeps c = undisturbed_keeps

pub returns-clause-alone : goal.returns-clause-alone
returns-clause-alone c = stages_alone
