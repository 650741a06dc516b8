use Rattle.history_cell.specs.Passes.{BelongsTo}
use Rattle.history_cell.proofs.tests.add_thousand.Given as goal

abbrev pub invariant-loop : goal.invariant-loop
invariant-loop g l = BelongsTo l.cell l.pass
