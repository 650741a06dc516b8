use Rattle.frame_text.proofs.Bodies.{known}
use Rattle.frame_text.proofs.read.read_payload.Goals as goal

pub returns-clause-known : goal.returns-clause-known
returns-clause-known c = λ payload s. known c.args.bytes.now payload c.read.result c.read.ensures s
