use Rattle.std.proofs.Common.{sym, ◌∙◌}
use Rattle.line_words.proofs.Numbers.{not_decimal, not_bare, not_text}
use Rattle.line_words.proofs.number.read_any.Goals as goal

pub returns-then-not-is_bare : goal.returns-then-not-is_bare
returns-then-not-is_bare c = not_decimal c.args.word.now (not_bare c.args.word.now (sym c.is_bare.ensures ∙ c.if-not-is_bare.true))

pub returns-in-Err : goal.returns-in-Err
returns-in-Err c = not_decimal c.args.word.now (not_text c.args.word.now c.in-Err.ensures.cases.0)
