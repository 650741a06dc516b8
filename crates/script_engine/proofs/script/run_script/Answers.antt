use Rattle.script_engine.proofs.RunLemmas.{Run-refused}
use Rattle.script_engine.proofs.script.run_script.Goals as goal

pub returns-then-not-is_script-clause-run : goal.returns-then-not-is_script-clause-run
returns-then-not-is_script-clause-run g c = Run-refused (g.S.Source.left c.args.source.now) (g.K.Sink.written c.args.sink.now) c.args.roots.now
