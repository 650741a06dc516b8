use Rattle.agent_proto.specs.Streams.{IsStream}
use Rattle.mux_frames.proofs.Splitting.{sound_front}
use Rattle.agent_proto.proofs.Running.{written, front_of}
use Rattle.agent_proto.proofs.laws.sent_is_read.Goals as goal
use Rattle.std.proofs.Common.{sym}

pub returns : goal.returns
returns c = record {
  all = written;
  front = front_of;
  sound = λ sent bytes more place each whole fault. sound_front IsStream bytes more place (sent, each, sym whole) fault;
}
