use Rattle.std.proofs.Common.{◌∙◌, append_assoc}
use Rattle.std.proofs.lemmas.Result.{IfOk-weaker}
use Rattle.script_engine.proofs.replies.cycle_line.Goals as goal

-- what is printed and what the line says group their parts in two ways
pub returns : goal.returns
returns c = IfOk-weaker c.format.result _ _ (λ text printed. printed ∙ simp append_assoc) c.format.ensures.ok
