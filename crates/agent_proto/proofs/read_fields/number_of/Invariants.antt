use Rattle.agent_proto.proofs.Numbers.{Reads}
use Rattle.agent_proto.proofs.read_fields.number_of.Given as goal

abbrev pub invariant-loop-digit : goal.invariant-loop-digit
invariant-loop-digit l = Reads l.digits l.digit-index l.number
