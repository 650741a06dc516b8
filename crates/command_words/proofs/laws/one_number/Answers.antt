use Rattle.command_words.proofs.Identifiers.{uuid_one}
use Rattle.command_words.proofs.laws.one_number.Goals as goal

pub returns : goal.returns
returns c = uuid_one
