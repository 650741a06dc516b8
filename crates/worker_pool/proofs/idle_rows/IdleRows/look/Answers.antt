use Rattle.std.proofs.Common.{sym, ap, ◌∙◌, subst}
use Rattle.std.specs.Option.{option_copied}
use Rattle.worker_pool.specs.IdleMap.{Rows, calls_at, ArePutAway}
use Rattle.worker_pool.proofs.FiniteMap.{row_seen}
use Rattle.worker_pool.proofs.idle_rows.IdleRows.look.Goals as goal

pub returns-in-Some-clause-count : goal.returns-in-Some-clause-count
returns-in-Some-clause-count g c = ap calls_at (sym (row_seen c.self.inside.rows c.args.self.now c.args.id (option_copied c.get.result) c.self.view_is c.get.ensures.value ∙ ap option_copied c.in-Some.is))

pub returns-in-Some-clause-put_away : goal.returns-in-Some-clause-put_away
returns-in-Some-clause-put_away g c =
    let Kept : Rows g.row.T.Denot → Type 0 = λ rows. ArePutAway g.T.Task.identity rows in
    subst Kept c.self.view_is c.self.invariant

pub returns-in-None-clause-count : goal.returns-in-None-clause-count
returns-in-None-clause-count g c = ap calls_at (sym (row_seen c.self.inside.rows c.args.self.now c.args.id (option_copied c.get.result) c.self.view_is c.get.ensures.value ∙ ap option_copied c.in-None.is))

pub returns-in-None-clause-put_away : goal.returns-in-None-clause-put_away
returns-in-None-clause-put_away g c =
    let Kept : Rows g.row.T.Denot → Type 0 = λ rows. ArePutAway g.T.Task.identity rows in
    subst Kept c.self.view_is c.self.invariant
