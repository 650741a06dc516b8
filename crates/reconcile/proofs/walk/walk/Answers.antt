use Rattle.std.proofs.Common.{◌+◌, ap, sym, ◌∙◌, take, drop, arith}
use Rattle.std.proofs.lemmas.List.{drop-drop}
use Rattle.mode_rules.specs.Sights.{trees_of}
use Rattle.reconcile.proofs.RowSteps.{rows_start, rows_turn}
use Rattle.reconcile.proofs.walk.walk.Goals as goal

pub rows-init : goal.rows-init
rows-init c = (omega arith, rows_start c.args.mode (trees_of c.args.sight.now) _ _ c.requires c.new-decided.ensures)

pub rows-preserved : goal.rows-preserved
rows-preserved c = (
  omega (arith, c.run_len-len.ensures.within, c.in-Some.ensures.cases.1, c.split_at.ensures.back_len),
  rows_turn c.args.mode (trees_of c.args.sight.now) c.in-Some.row.now c.in-Some.below.now (drop c.rows.at c.args.rows.now)
      c.split_at-in-rows.result.0.now (drop (c.rows.at + (1 + c.run_len-len.result)) c.args.rows.now) c.rows.decided c.add.new.self c.run_len-len.result
      c.rows.invariant.1
      (sym c.split_at.ensures.back ∙ c.in-Some.ensures.cases.0)
      c.run_len-len.ensures.len
      (c.split_at-in-rows.ensures.front ∙ ap (take (1 + c.run_len-len.result)) c.split_at.ensures.back)
      (sym (drop-drop (1 + c.run_len-len.result) c.rows.at c.args.rows.now))
      c.in_ok-add.ensures.changes c.in_ok-add.ensures.agreed c.in_ok-add.ensures.conflicts,
)
