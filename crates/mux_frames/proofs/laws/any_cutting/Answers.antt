use Rattle.mux_frames.proofs.Running.{run_splits, run_faults}
use Rattle.mux_frames.proofs.laws.any_cutting.Goals as goal

pub returns : goal.returns
returns c = record { frames = run_splits; place = run_faults }
