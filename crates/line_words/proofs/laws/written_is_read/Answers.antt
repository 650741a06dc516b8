use Rattle.line_words.proofs.ReadBack.{written_read, read_written, read_words}
use Rattle.line_words.proofs.laws.written_is_read.Goals as goal

pub returns-clause-read : goal.returns-clause-read
returns-clause-read c = written_read

pub returns-clause-alone : goal.returns-clause-alone
returns-clause-alone c = read_written

pub returns-clause-words : goal.returns-clause-words
returns-clause-words c = read_words
