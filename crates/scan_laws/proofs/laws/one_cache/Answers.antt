use Rattle.scan_laws.proofs.Knowing.{files_are_known, lines_stay}
use Rattle.scan_laws.proofs.laws.one_cache.Goals as goal

pub returns-clause-files : goal.returns-clause-files
returns-clause-files c = files_are_known

pub returns-clause-lines : goal.returns-clause-lines
returns-clause-lines c = lines_stay
