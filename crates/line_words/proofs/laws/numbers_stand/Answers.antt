use Rattle.line_words.proofs.ReadBack.{decimal_stands}
use Rattle.line_words.proofs.laws.numbers_stand.Goals as goal

pub returns : goal.returns
returns c = decimal_stands
