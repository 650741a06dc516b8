use Rattle.roots_api.specs.Logs.{state_of}
use Rattle.roots_api.proofs.Answering.{answers_in_row}
use Rattle.roots_api.proofs.PathsKept.{tree_holds}
use Rattle.roots_api.proofs.laws.answers_in_row.Goals as goal

pub returns : goal.returns
returns c log legal id op = answers_in_row (state_of log) id op (tree_holds log legal)
