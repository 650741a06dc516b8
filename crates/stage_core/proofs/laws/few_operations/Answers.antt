use Rattle.stage_core.proofs.Few.{few_for_files}
use Rattle.stage_core.proofs.Pieces.{few_for_pieces}
use Rattle.stage_core.proofs.laws.few_operations.Goals as goal

pub returns : goal.returns
returns c = record { files = few_for_files; pieces = few_for_pieces }
