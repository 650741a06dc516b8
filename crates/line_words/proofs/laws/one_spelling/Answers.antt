use Rattle.line_words.proofs.Spellings.{read_back, only_escaped}
use Rattle.line_words.proofs.laws.one_spelling.Goals as goal

pub returns-clause-read : goal.returns-clause-read
returns-clause-read c = read_back

pub returns-clause-alone : goal.returns-clause-alone
returns-clause-alone c = only_escaped
