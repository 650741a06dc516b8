use Rattle.command_words.proofs.Numbers.{port}
use Rattle.command_words.proofs.endpoint.is_port.Goals as goal

pub returns : goal.returns
returns c = port c.args.word.now c.read.result c.is_some.result c.is_some.ensures c.read.ensures
