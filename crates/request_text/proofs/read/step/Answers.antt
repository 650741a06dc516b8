use Rattle.std.proofs.Common.{subst, sym}
use Rattle.request_text.specs.States.{LineGoes, LineSteps}
use Rattle.request_text.proofs.read.step.Goals as goal

pub returns-in-Named : goal.returns-in-Named
returns-in-Named c = subst (λ s. LineSteps (LineGoes s c.args.word.now) c.number.result) (sym c.in-Named.is) c.number.ensures
