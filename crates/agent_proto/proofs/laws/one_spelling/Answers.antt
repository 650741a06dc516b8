use Rattle.agent_proto.proofs.MessageLaws.{one_message, one_bytes}
use Rattle.agent_proto.proofs.laws.one_spelling.Goals as goal

pub returns : goal.returns
returns c = record { bodies = one_message; messages = one_bytes }
