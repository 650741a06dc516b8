use Rattle.std.proofs.Common.{ℕ}
use Rattle.line_words.proofs.Numbers.{read_some, read_none}
use Rattle.line_words.proofs.number.parse.Goals as goal

pub returns-in-Ok : goal.returns-in-Ok
returns-in-Ok c = read_some ℕ c.args.text.now c.in-Ok.n c.in-Ok.ensures.value.0 c.requires

pub returns-in-Err : goal.returns-in-Err
returns-in-Err c = read_none _ c.args.text.now c.in-Err.field-0 c.in-Err.ensures.value.0 c.requires
