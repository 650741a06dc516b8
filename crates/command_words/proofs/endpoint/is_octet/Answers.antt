use Rattle.command_words.proofs.Numbers.{octet}
use Rattle.command_words.proofs.endpoint.is_octet.Goals as goal

pub returns : goal.returns
returns c = octet c.args.word.now c.read_number.result c.is_some.result c.is_some.ensures c.read_number.ensures
