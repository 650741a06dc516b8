use Rattle.reply_laws.proofs.Told.{same_words}
use Rattle.reply_laws.proofs.laws.one_list_of_words.Goals as goal

pub returns : goal.returns
returns c = same_words
