use Rattle.std.proofs.Common.{◌∙◌, sym}
use Rattle.request_text.proofs.LineSteps.{client_named, client_unnamed}
use Rattle.request_text.proofs.read.named.Goals as goal

pub returns-in-Some : goal.returns-in-Some
returns-in-Some c = client_named c.args.name.now c.in-Some.found (sym c.in-Some.is ∙ c.in_ok-found.ensures)

pub returns-in-None : goal.returns-in-None
returns-in-None c = client_unnamed c.args.name.now (sym c.in_ok-found.ensures ∙ c.in-None.is)
