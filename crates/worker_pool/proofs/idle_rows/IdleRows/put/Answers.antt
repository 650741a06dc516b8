use Rattle.std.proofs.Common.{sym, ap, ◌∙◌, subst}
use Rattle.std.specs.Prelude.{Option, None}
use Rattle.std.specs.Option.{option_copied_mut}
use Rattle.std.specs.FinMap as map
use Rattle.worker_pool.specs.declared.idle_rows.IdleRows.TheInside.{Inside}
use Rattle.worker_pool.specs.IdleMap.{Rows, rows_in, ArePutAway}
use Rattle.worker_pool.proofs.FiniteMap.{row_seen, row_written, PutsAway, puts_in_row, puts_nowhere}
use Rattle.worker_pool.proofs.idle_rows.IdleRows.put.Given as given
use Rattle.worker_pool.proofs.idle_rows.IdleRows.put.Goals as goal
use Rattle.worker_pool.proofs.idle_rows.IdleRows.put.Goals.{in-Some, in-None}

ends : (g : given.Over) (c : goal.Joined-get_mut g)
    → PutsAway g.T.Task.identity c.args.self.now c.args.task c.args.looked c.match-get_mut.result (rows_in c.match-get_mut.self-inside.rows)
ends g c =
    let Kept : Rows g.row.T.Denot → Type 0 = λ rows. ArePutAway g.T.Task.identity rows in
    let rows : Rows g.row.T.Denot = c.args.self.now in
    let kept : Kept rows = subst Kept c.self.view_is c.self.invariant in
    let Ends : Option g.row.T.Denot → Type 0 = λ back. PutsAway g.T.Task.identity rows c.args.task c.args.looked back (rows_in c.match-get_mut.self-inside.rows) in
    elim c.match-get_mut.branch [
      | in-Some w ↦
          let seen = sym (ap option_copied_mut w.in-Some.is) ∙ c.get_mut.ensures.value in
          subst Ends (sym w.result-is)
          (puts_in_row g.T.Task.identity rows c.args.task c.args.looked w.in-Some.row.now w.put.new.self w.put.result _ kept
          (ap (map.get rows) (sym c.id.ensures) ∙ row_seen c.self.inside.rows rows c.id.result _ c.self.view_is seen)
          (ap (λ (s : Inside g.row.T.Denot). rows_in s.rows) w.self-inside-is
          ∙ row_written c.self.inside.rows (c.get_mut.follows.lender w.put.new.self) rows c.id.result w.in-Some.row.now w.put.new.self c.self.view_is seen (c.get_mut.follows.holds w.put.new.self)
          ∙ ap (λ k. map.insert rows k w.put.new.self) c.id.ensures)
          w.put.ensures.put w.put.ensures.away w.put.ensures.back)
      | in-None w ↦
          subst Ends (sym w.result-is)
          (puts_nowhere g.T.Task.identity rows c.args.task c.args.looked _ kept
          (ap (map.get rows) (sym c.id.ensures) ∙ row_seen c.self.inside.rows rows c.id.result None c.self.view_is (sym (ap option_copied_mut w.in-None.is) ∙ c.get_mut.ensures.value))
          (ap (λ (s : Inside g.row.T.Denot). rows_in s.rows) w.self-inside-is ∙ ap rows_in c.get_mut.follows.holds-at-none ∙ c.self.view_is))
    ]

pub invariant_of-self : goal.invariant_of-self
invariant_of-self g c = (ends g c).put_away

pub returns-clause-put : goal.returns-clause-put
returns-clause-put g c = (ends g c).put

pub returns-clause-away : goal.returns-clause-away
returns-clause-away g c = (ends g c).away

pub returns-clause-back : goal.returns-clause-back
returns-clause-back g c = (ends g c).back_is
