use Rattle.request_text.proofs.WordKinds.{no_link}
use Rattle.request_text.proofs.kinds.next_link.Goals as goal

pub returns-in-Err : goal.returns-in-Err
returns-in-Err c = no_link c.args.word.now c.in-Some.bytes.now c.in-Some.ensures (λ u. c.in-Err.ensures.cases.0 u)
