use Rattle.script_engine.proofs.Prefixes.{behind_is}
use Rattle.script_engine.proofs.words.behind.Goals as goal

pub returns : goal.returns
returns c = behind_is c.args.prefix.now c.args.text.now c.strip_prefix.result c.strip_prefix.ensures.cases
