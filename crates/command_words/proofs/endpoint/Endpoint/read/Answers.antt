use Rattle.command_words.proofs.Endpoints.{endpoint_is_text}
use Rattle.command_words.proofs.endpoint.Endpoint.read.Goals as goal

pub returns-in-Err-clause-none : goal.returns-in-Err-clause-none
returns-in-Err-clause-none c = λ e is. c.in-Err.ensures.cases.0 (endpoint_is_text c.args.word.now is)
