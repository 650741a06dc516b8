use Rattle.std.proofs.Common.{length, ◌-◌}
use Rattle.agent_proto.proofs.Walking.{Walked}
use Rattle.agent_proto.proofs.walk.walk.Given as goal

abbrev pub invariant-loop-index : goal.invariant-loop-index
invariant-loop-index l = Walked l.fn.place l.bytes l.index l.at

abbrev pub decreases-loop-index : goal.decreases-loop-index
decreases-loop-index l = length l.bytes - l.index
