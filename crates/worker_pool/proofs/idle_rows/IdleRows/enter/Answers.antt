use Rattle.std.proofs.Common.{◌≡◌, true, false, not, sym, ap, ◌∙◌, subst}
use Rattle.std.specs.Prelude.{None}
use Rattle.std.specs.FinMap as map
use Rattle.worker_pool.specs.IdleRow.{new_row}
use Rattle.worker_pool.specs.IdleMap.{Rows, rows_in, ArePutAway}
use Rattle.worker_pool.proofs.FiniteMap.{row_seen, key_seen, entered-old, entered-new, rows_in-insert, rows_in-same, none_some, put_away-insert}
use Rattle.worker_pool.proofs.idle_rows.IdleRows.enter.Given as given
use Rattle.worker_pool.proofs.idle_rows.IdleRows.enter.Goals as goal

pub returns-then-contains_key-clause-made : goal.returns-then-contains_key-clause-made
returns-then-contains_key-clause-made g c =
    ap not (sym (key_seen c.self.inside.rows c.args.self.now c.args.id true c.self.view_is (sym c.if-contains_key.true ∙ c.contains_key.ensures)))

pub returns-then-contains_key-clause-rows : goal.returns-then-contains_key-clause-rows
returns-then-contains_key-clause-rows g c =
    sym (entered-old c.args.self.now c.args.id (key_seen c.self.inside.rows c.args.self.now c.args.id true c.self.view_is (sym c.if-contains_key.true ∙ c.contains_key.ensures)))

-- there was no row
lacked : (g : given.Over) (c : goal.Joined-insert-2 g) → map.contains_key c.args.self.now c.args.id ≡ false
lacked g c = key_seen c.self.inside.rows c.args.self.now c.args.id false c.self.view_is (sym c.if-contains_key.false ∙ c.contains_key.ensures)

pub returns-in-Ok-clause-made : goal.returns-in-Ok-clause-made
returns-in-Ok-clause-made g c = ap not (sym (lacked g c))

inserted : (g : given.Over) (c : goal.Joined-insert-2 g) → rows_in c.insert.new.self ≡ map.insert c.args.self.now c.args.id new_row
inserted g c =
    rows_in-insert c.self.inside.rows c.insert.new.self c.args.id c.new.result c.in-Ok.ensures.updates
    ∙ ap (λ rows. map.insert rows c.args.id c.new.result) c.self.view_is
    ∙ ap (map.insert c.args.self.now c.args.id) c.new.ensures

pub returns-in-Ok-clause-rows : goal.returns-in-Ok-clause-rows
returns-in-Ok-clause-rows g c = inserted g c ∙ sym (entered-new c.args.self.now c.args.id (lacked g c))

pub invariant_of-self : goal.invariant_of-self
invariant_of-self g c =
    let Kept : Rows g.row.T.Denot → Type 0 = λ rows. ArePutAway g.T.Task.identity rows in
    subst Kept (sym (inserted g c)) (put_away-insert g.T.Task.identity c.args.self.now c.args.id new_row (subst Kept c.self.view_is c.self.invariant) (λ a e. absurd (none_some a e)))

pub returns-clause-err : goal.returns-clause-err
returns-clause-err g c = (rows_in-same c.self.inside.rows c.insert.new.self c.in-Err.ensures.err ∙ c.self.view_is, row_seen c.self.inside.rows c.args.self.now c.args.id None c.self.view_is (sym c.in-Err.ensures.absent))

pub invariant_of-self-2 : goal.invariant_of-self-2
invariant_of-self-2 g c =
    let Kept : Rows g.row.T.Denot → Type 0 = λ rows. ArePutAway g.T.Task.identity rows in
    subst Kept (sym (rows_in-same c.self.inside.rows c.insert.new.self c.in-Err.ensures.err)) c.self.invariant
