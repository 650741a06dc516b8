use Rattle.stage_core.proofs.Whole.{each_kept_or_missing}
use Rattle.stage_core.proofs.laws.kept_or_missing.Goals as goal

pub returns : goal.returns
returns c = each_kept_or_missing
