use Rattle.std.proofs.Common.{[], sym, subst}
use Rattle.agent_proto.specs.Follows.{Follows}
use Rattle.agent_proto.proofs.Follows.{follows_start}
use Rattle.agent_proto.proofs.reader.MessageReader.new.Goals as goal

pub invariant_of-result : goal.invariant_of-result
invariant_of-result c = (subst (Follows []) (sym c.start.ensures) follows_start, tt)
