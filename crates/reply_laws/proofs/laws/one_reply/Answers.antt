use Rattle.reply_laws.proofs.Replies.{same_bytes}
use Rattle.reply_laws.proofs.laws.one_reply.Goals as goal

pub returns : goal.returns
returns c = same_bytes
