use Rattle.request_laws.proofs.Spelled.{written_is_read}
use Rattle.request_laws.proofs.laws.a_written_line_is_read.Goals as goal

pub returns : goal.returns
returns c = written_is_read
