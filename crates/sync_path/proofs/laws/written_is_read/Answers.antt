use Rattle.sync_path.proofs.Texts.{same_from_texts}
use Rattle.sync_path.proofs.laws.written_is_read.Goals as goal

pub returns-clause-same : goal.returns-clause-same
returns-clause-same c = same_from_texts
