use Rattle.script_engine.proofs.PlainLines.{no_request_unless_utf8}
use Rattle.script_engine.proofs.request.read_request.Goals as goal

pub returns-in-Err : goal.returns-in-Err
returns-in-Err c = no_request_unless_utf8 c.args.line.now c.in-Err.ensures.cases.0
