use Rattle.std.proofs.Common.{rules}
use Rattle.cycle_core.proofs.Memories.{full}
use Rattle.cycle_core.proofs.ending.to_changes.Goals as goal

pub returns-then-asks : goal.returns-then-asks
returns-then-asks c = (full, search rules)
