use Rattle.workload.proofs.Joins.{path_written, on_ok}
use Rattle.workload.proofs.pieces.push_file.Goals as goal

pub returns : goal.returns
returns c = on_ok c.push_name.result (path_written c.args.file _ _ _ c.in_ok-push_folder.ensures) c.push_name.ensures
