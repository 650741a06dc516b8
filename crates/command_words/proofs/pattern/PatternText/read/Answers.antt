use Rattle.command_words.proofs.Values.{kept_no_text}
use Rattle.command_words.proofs.pattern.PatternText.read.Goals as goal

pub returns-in-Err : goal.returns-in-Err
returns-in-Err c = kept_no_text c.args.bytes.now c.in-Err.ensures.cases.0
