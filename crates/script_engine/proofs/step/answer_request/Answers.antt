use Rattle.std.proofs.lemmas.Result.{IfOk-weaker}
use Rattle.script_engine.proofs.step.answer_request.Goals as goal

pub returns-in-Put-clause-answered : goal.returns-in-Put-clause-answered
returns-in-Put-clause-answered c =
    IfOk-weaker c.put.result _ _ (λ reply puts. rw c.in-Put.is (puts c.args.session.now)) c.put.ensures.answered

pub returns-in-Create-clause-answered : goal.returns-in-Create-clause-answered
returns-in-Create-clause-answered c =
    IfOk-weaker c.create.result _ _ (λ reply creates. rw c.in-Create.is (creates c.args.roots.now)) c.create.ensures.answered

pub returns-in-Show-clause-answered : goal.returns-in-Show-clause-answered
returns-in-Show-clause-answered c =
    IfOk-weaker c.show.result _ _ (λ reply shows. rw c.in-Show.is (shows c.args.session.now)) c.show.ensures
