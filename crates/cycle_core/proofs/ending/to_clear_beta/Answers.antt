use Rattle.std.proofs.Common.{rules}
use Rattle.cycle_core.proofs.Memories.{full}
use Rattle.cycle_core.proofs.ending.to_clear_beta.Goals as goal

pub returns-then-work : goal.returns-then-work
returns-then-work c = (full, search rules)
