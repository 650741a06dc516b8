use Rattle.frame_journal.proofs.Running.{run_goes_on, run_kept, run_moments, run_acknowledged}
use Rattle.frame_journal.proofs.laws.every_run.Goals as goal

pub returns-clause-goes_on : goal.returns-clause-goes_on
returns-clause-goes_on g c = run_goes_on g.D.Disk.history

pub returns-clause-kept : goal.returns-clause-kept
returns-clause-kept g c = run_kept g.D.Disk.history

pub returns-clause-moments : goal.returns-clause-moments
returns-clause-moments g c = run_moments g.D.Disk.history

pub returns-clause-acknowledged : goal.returns-clause-acknowledged
returns-clause-acknowledged g c = run_acknowledged g.D.Disk.history
