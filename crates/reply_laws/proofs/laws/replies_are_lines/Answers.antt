use Rattle.reply_laws.proofs.Told.{are_lines}
use Rattle.reply_laws.proofs.laws.replies_are_lines.Goals as goal

pub returns : goal.returns
returns c = are_lines
