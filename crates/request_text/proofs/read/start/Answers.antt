use Rattle.request_text.proofs.LineSteps.{no_client}
use Rattle.request_text.proofs.read.start.Goals as goal

pub returns-in-None : goal.returns-in-None
returns-in-None c = no_client c.args.word.now c.unnamed.result c.in-None.ensures c.unnamed.ensures
