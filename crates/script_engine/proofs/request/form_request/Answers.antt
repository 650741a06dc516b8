use Rattle.std.proofs.Common.{arith}
use Rattle.script_engine.proofs.Forms.{no_form}
use Rattle.script_engine.proofs.request.form_request.Goals as goal
use Rattle.script_engine.proofs.request.form_request.Goals.{in_default-via-then-words-lt2, in_default-via-else-words-lt2+else-words-lt3+else-words-lt4+then-words-lt5, in_default-via-else-words-lt2+else-words-lt3+else-words-lt4+else-words-lt5+else-words-lt6}

pub returns-in_default : goal.returns-in_default
returns-in_default c =
    elim c.in_default.branch [
      | in_default-via-then-words-lt2 w ↦ no_form c.args.words.now (grind arith) (grind arith) (grind arith)
      | in_default-via-else-words-lt2+else-words-lt3+else-words-lt4+then-words-lt5 w ↦ no_form c.args.words.now (grind arith) (grind arith) (grind arith)
      | in_default-via-else-words-lt2+else-words-lt3+else-words-lt4+else-words-lt5+else-words-lt6 w ↦ no_form c.args.words.now (grind arith) (grind arith) (grind arith)
    ]
