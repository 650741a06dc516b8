use Rattle.std.proofs.Common.{rules}
use Rattle.history_cell.proofs.Keeps.{looks_at_tickets, draws}
use Rattle.history_cell.proofs.cell.HistoryCell.draw.Goals as goal

pub load-looked-requires : goal.load-looked-requires
load-looked-requires g c = (search rules, search rules, looks_at_tickets _ _ _ _ _)

pub compare_exchange-requires : goal.compare_exchange-requires
compare_exchange-requires g c = (search rules, search rules, draws _ _ _ _ _ _ (search rules) (search rules))
