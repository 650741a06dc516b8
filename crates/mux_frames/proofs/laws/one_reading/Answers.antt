use Rattle.mux_frames.specs.Streams.{IsStream}
use Rattle.mux_frames.proofs.Splitting.{one_reading_of, no_fault_in, one_fault_of}
use Rattle.mux_frames.proofs.Running.{held_short}
use Rattle.mux_frames.proofs.laws.one_reading.Goals as goal

pub returns : goal.returns
returns c = record {
  same = one_reading_of;
  sound = no_fault_in;
  first = one_fault_of IsStream;
  short = λ bytes frames rest splits. held_short rest splits.partial;
}
