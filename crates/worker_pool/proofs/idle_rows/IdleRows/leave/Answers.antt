use Rattle.std.proofs.Common.{◌≡◌, sym, ap, ◌∙◌, subst}
use Rattle.std.specs.Prelude.{Option}
use Rattle.std.specs.Option.{IfSome}
use Rattle.std.specs.FinMap as map
use Rattle.worker_pool.specs.IdleMap.{Rows, task_at, ArePutAway}
use Rattle.worker_pool.proofs.FiniteMap.{row_seen, rows_in-remove, own_task, put_away-remove}
use Rattle.worker_pool.proofs.idle_rows.IdleRows.leave.Goals as goal

pub returns-clause-rows : goal.returns-clause-rows
returns-clause-rows g c = rows_in-remove c.self.inside.rows c.remove-row.new.self c.args.id c.remove-row.ensures.updates ∙ ap (λ rows. map.remove rows c.args.id) c.self.view_is

pub invariant_of-self : goal.invariant_of-self
invariant_of-self g c =
    let Kept : Rows g.row.T.Denot → Type 0 = λ rows. ArePutAway g.T.Task.identity rows in
    subst Kept (sym (returns-clause-rows g c)) (put_away-remove g.T.Task.identity c.args.self.now c.args.id (subst Kept c.self.view_is c.self.invariant))

pub returns-clause-task : goal.returns-clause-task
returns-clause-task g c = c.row_task.ensures ∙ ap task_at (sym (row_seen c.self.inside.rows c.args.self.now c.args.id c.remove-row.result c.self.view_is c.remove-row.ensures.value))

pub returns-clause-own : goal.returns-clause-own
returns-clause-own g c =
    let Own : Option g.row.T.Denot → Type 0 = λ o. IfSome o (λ t. g.T.Task.identity t ≡ c.args.id) in
    let Kept : Rows g.row.T.Denot → Type 0 = λ rows. ArePutAway g.T.Task.identity rows in
    subst Own (sym (returns-clause-task g c)) (own_task g.T.Task.identity c.args.self.now c.args.id (subst Kept c.self.view_is c.self.invariant))
