use Rattle.agent_proto.proofs.MessageLaws.{written_found}
use Rattle.agent_proto.proofs.laws.written_is_read.Goals as goal

pub returns : goal.returns
returns c = written_found
