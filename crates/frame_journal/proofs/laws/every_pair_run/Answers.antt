use Rattle.frame_journal.proofs.PairRunning.{pair_goes_on, pair_kept, every_moment}
use Rattle.frame_journal.proofs.laws.every_pair_run.Goals as goal

pub returns-clause-goes_on : goal.returns-clause-goes_on
returns-clause-goes_on g c = pair_goes_on g.D.Disk.history

pub returns-clause-kept : goal.returns-clause-kept
returns-clause-kept g c = pair_kept g.D.Disk.history

pub returns-clause-moments : goal.returns-clause-moments
returns-clause-moments g c = every_moment g.D.Disk.history
