use Rattle.std.proofs.Common.{rules}
use Rattle.history_cell.proofs.Keeps.{splits}
use Rattle.history_cell.proofs.cell.HistoryCell.split.Goals as goal

pub split_seat-requires : goal.split_seat-requires
split_seat-requires g c = (search rules, search rules, splits _ _ _ _ c.args.pass.now.resting)
