use Rattle.script_engine.proofs.FlushLaws.{every_agrees}
use Rattle.script_engine.proofs.laws.a_flush_agrees_elsewhere.Goals as goal

pub returns : goal.returns
returns c = every_agrees
