use Rattle.mem_roots.proofs.Running.{runs_are_sound, counts_are_exact}
use Rattle.mem_roots.proofs.laws.every_run.Goals as goal

pub returns-clause-sound : goal.returns-clause-sound
returns-clause-sound c = runs_are_sound

pub returns-clause-counts : goal.returns-clause-counts
returns-clause-counts c = counts_are_exact
