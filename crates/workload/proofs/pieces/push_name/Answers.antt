use Rattle.workload.proofs.Joins.{name_written, on_ok}
use Rattle.workload.proofs.pieces.push_name.Goals as goal

pub returns : goal.returns
returns c =
    on_ok c.push_digit-5.result (name_written c.args.file _ _ _ _ _ _ _ c.in_ok-push_str.ensures.bytes c.in_ok-push_digit.ensures c.in_ok-push_digit-2.ensures c.in_ok-push_digit-3.ensures c.in_ok-push_digit-4.ensures)
    c.push_digit-5.ensures
