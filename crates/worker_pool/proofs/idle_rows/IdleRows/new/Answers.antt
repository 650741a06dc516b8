use Rattle.std.proofs.Common.{sym, ap, subst}
use Rattle.std.specs.FinMap.{from_entries}
use Rattle.worker_pool.specs.IdleMap.{Rows, ArePutAway}
use Rattle.worker_pool.proofs.FiniteMap.{put_away-empty}
use Rattle.worker_pool.proofs.idle_rows.IdleRows.new.Goals as goal

pub invariant_of-result : goal.invariant_of-result
invariant_of-result g c =
    let Kept : Rows g.row.T.Denot → Type 0 = λ rows. ArePutAway g.T.Task.identity rows in
    subst Kept (sym (ap from_entries c.new.ensures.empty)) (put_away-empty g.T.Task.identity)
