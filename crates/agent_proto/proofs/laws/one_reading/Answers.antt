use Rattle.agent_proto.specs.Streams.{IsStream}
use Rattle.mux_frames.proofs.Splitting.{one_fault_of}
use Rattle.agent_proto.proofs.Splitting.{one_reading_of, no_fault_in}
use Rattle.agent_proto.proofs.Running.{held_short}
use Rattle.agent_proto.proofs.laws.one_reading.Goals as goal

pub returns : goal.returns
returns c = record {
  same = one_reading_of;
  sound = no_fault_in;
  first = one_fault_of IsStream;
  short = λ bytes frames rest splits. held_short rest splits.partial;
}
