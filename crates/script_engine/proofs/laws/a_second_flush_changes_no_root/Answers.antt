use Rattle.script_engine.proofs.FlushLaws.{every_lasts}
use Rattle.script_engine.proofs.laws.a_second_flush_changes_no_root.Goals as goal

pub returns : goal.returns
returns c = every_lasts
