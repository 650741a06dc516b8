use Rattle.std.proofs.Common.{◌∙◌, refl, sym}
use Rattle.request_text.proofs.LineSteps.{ends_not, ends_whole}
use Rattle.request_text.proofs.read.finish_request.Goals as goal

pub returns-in-Some : goal.returns-in-Some
returns-in-Some c = (refl, ends_whole c.args.place c.in-Some.request (sym c.whole_of.ensures ∙ c.in-Some.is))

pub returns-in-None : goal.returns-in-None
returns-in-None c = rw c.bad.ensures (refl, λ asked h. ends_not c.args.place asked.request (sym c.whole_of.ensures ∙ c.in-None.is) h.1)
