use Rattle.line_words.proofs.ReadBack.{items_around, written_around}
use Rattle.line_words.proofs.laws.words_behind_others.Goals as goal

pub returns-clause-read : goal.returns-clause-read
returns-clause-read c = items_around

pub returns-clause-written : goal.returns-clause-written
returns-clause-written c = written_around
