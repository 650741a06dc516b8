use Rattle.stage_core.proofs.Stopping.{stops_at_once}
use Rattle.stage_core.proofs.laws.stops_at_once.Goals as goal

pub returns : goal.returns
returns c = stops_at_once
