use Rattle.std.proofs.Common.{◌≡◌, ℕ, sym, ap, ◌∙◌, subst}
use Rattle.std.specs.Prelude.{Option, None, Some}
use Rattle.std.specs.Option.{IfSome, option_copied_mut}
use Rattle.std.specs.BTreeMap as tree
use Rattle.std.specs.BTreeMap.{BTreeMap}
use Rattle.std.specs.Ordering.{nat_cmp}
use Rattle.std.specs.FinMap as map
use Rattle.worker_pool.specs.declared.row.Row.{Row}
use Rattle.worker_pool.specs.IdleRow.{called}
use Rattle.worker_pool.specs.IdleMap.{Rows, rows_in, task_at, ArePutAway}
use Rattle.worker_pool.proofs.FiniteMap.{row_seen, row_written, called_at-some, called_at-none, own_task, none_some, put_away-insert}
use Rattle.worker_pool.proofs.idle_rows.IdleRows.call.Given as given
use Rattle.worker_pool.proofs.idle_rows.IdleRows.call.Goals as goal

-- there was no row
no_row : (g : given.Over) (c : goal.After-from_residual g) → map.get c.args.self.now c.args.id ≡ None
no_row g c = row_seen c.self.inside.rows c.args.self.now c.args.id None c.self.view_is (sym (ap option_copied_mut c.in_err-get_mut.was) ∙ c.get_mut.ensures.value)

pub invariant_of-self : goal.invariant_of-self
invariant_of-self g c =
    let Kept : BTreeMap ℕ (Row g.row.T.Denot) → Type 0 = λ m. ArePutAway g.T.Task.identity (rows_in m) in
    subst Kept (sym c.get_mut.follows.holds-at-none) c.self.invariant

pub returns-in_err-get_mut-clause-task : goal.returns-in_err-get_mut-clause-task
returns-in_err-get_mut-clause-task g c = c.from_residual.ensures ∙ ap task_at (sym (no_row g c))

pub returns-in_err-get_mut-clause-rows : goal.returns-in_err-get_mut-clause-rows
returns-in_err-get_mut-clause-rows g c = ap rows_in c.get_mut.follows.holds-at-none ∙ c.self.view_is ∙ sym (called_at-none c.args.self.now c.args.id (no_row g c))

-- the row that was lent
lent : (g : given.Over) (c : goal.After-self-2-1 g) → Some c.in_ok-get_mut.field-0.now ≡ tree.get nat_cmp c.self.inside.rows c.args.id
lent g c = sym (ap option_copied_mut c.in_ok-get_mut.was) ∙ c.get_mut.ensures.value

found : (g : given.Over) (c : goal.After-self-2-1 g) → map.get c.args.self.now c.args.id ≡ Some c.in_ok-get_mut.field-0.now
found g c = row_seen c.self.inside.rows c.args.self.now c.args.id _ c.self.view_is (lent g c)

written : (g : given.Over) (c : goal.After-self-2-1 g) → rows_in (c.get_mut.follows.lender c.call.new.self) ≡ map.insert c.args.self.now c.args.id (called c.in_ok-get_mut.field-0.now)
written g c =
    row_written c.self.inside.rows (c.get_mut.follows.lender c.call.new.self) c.args.self.now c.args.id c.in_ok-get_mut.field-0.now c.call.new.self c.self.view_is (lent g c) (c.get_mut.follows.holds c.call.new.self)
    ∙ ap (map.insert c.args.self.now c.args.id) c.call.ensures.row

pub invariant_of-self-2 : goal.invariant_of-self-2
invariant_of-self-2 g c =
    let Kept : Rows g.row.T.Denot → Type 0 = λ rows. ArePutAway g.T.Task.identity rows in
    subst Kept (sym (written g c)) (put_away-insert g.T.Task.identity c.args.self.now c.args.id (called c.in_ok-get_mut.field-0.now) (subst Kept c.self.view_is c.self.invariant) (λ a e. absurd (none_some a e)))

pub returns-clause-task : goal.returns-clause-task
returns-clause-task g c = c.call.ensures.task ∙ ap task_at (sym (found g c))

pub returns-clause-own : goal.returns-clause-own
returns-clause-own g c =
    let Own : Option g.row.T.Denot → Type 0 = λ o. IfSome o (λ t. g.T.Task.identity t ≡ c.args.id) in
    let Kept : Rows g.row.T.Denot → Type 0 = λ rows. ArePutAway g.T.Task.identity rows in
    subst Own (sym (returns-clause-task g c)) (own_task g.T.Task.identity c.args.self.now c.args.id (subst Kept c.self.view_is c.self.invariant))

pub returns-clause-rows : goal.returns-clause-rows
returns-clause-rows g c = written g c ∙ sym (called_at-some c.args.self.now c.args.id _ (found g c))
