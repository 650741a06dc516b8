use Rattle.script_engine.proofs.FlushLaws.{every_takes}
use Rattle.script_engine.proofs.laws.a_flush_takes_only_the_others.Goals as goal

pub returns : goal.returns
returns c = every_takes
