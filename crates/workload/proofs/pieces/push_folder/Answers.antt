use Rattle.workload.proofs.Joins.{folder_written, on_ok}
use Rattle.workload.proofs.pieces.push_folder.Goals as goal

pub returns : goal.returns
returns c =
    on_ok c.push_digit-4.result (folder_written c.args.folder _ _ _ _ _ _ c.in_ok-push_str.ensures.bytes c.in_ok-push_digit.ensures c.in_ok-push_digit-2.ensures c.in_ok-push_digit-3.ensures)
    c.push_digit-4.ensures
