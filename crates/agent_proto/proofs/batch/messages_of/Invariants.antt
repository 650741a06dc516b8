use Rattle.std.proofs.Common.{◌-◌, length}
use Rattle.agent_proto.specs.Batches.{Added}
use Rattle.agent_proto.proofs.batch.messages_of.Given as goal

abbrev pub invariant-loop-at : goal.invariant-loop-at
invariant-loop-at l = Added l.fn.messages.items l.bytes l.messages.items l.used

abbrev pub decreases-loop-at : goal.decreases-loop-at
decreases-loop-at l = length l.bytes - l.used
