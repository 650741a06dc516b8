use Rattle.script_engine.proofs.FlushLaws.{every_leaves}
use Rattle.script_engine.proofs.laws.a_flush_leaves_conflicts.Goals as goal

pub returns : goal.returns
returns c = every_leaves
