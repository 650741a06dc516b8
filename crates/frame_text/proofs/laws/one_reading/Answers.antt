use Rattle.frame_text.proofs.Bodies.{one_payload}
use Rattle.frame_text.proofs.laws.one_reading.Goals as goal

pub returns : goal.returns
returns c = one_payload
