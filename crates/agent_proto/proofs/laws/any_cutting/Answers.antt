use Rattle.agent_proto.proofs.Running.{run_splits, run_faults}
use Rattle.agent_proto.proofs.laws.any_cutting.Goals as goal

pub returns : goal.returns
returns c = record { messages = run_splits; place = run_faults }
