use Rattle.cycle_core.proofs.Taking.{stand_told}
use Rattle.cycle_core.proofs.turning.answered.Goals as goal

pub staged-requires : goal.staged-requires
staged-requires c = stand_told c.args.stand c.in-Stages.supply c.args.answer c.in-Stages.is c.requires
