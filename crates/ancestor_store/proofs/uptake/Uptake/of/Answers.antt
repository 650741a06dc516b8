use Rattle.ancestor_store.proofs.Uptaking.{is_uptake}
use Rattle.ancestor_store.proofs.uptake.Uptake.of.Goals as goal

pub returns-clause-steps : goal.returns-clause-steps
returns-clause-steps c = λ to folds.
    is_uptake c.args.tree.now to c.in_ok-outcome.outcome c.args.lines.now c.iter.ensures.closed folds c.in_ok-outcome.ensures _ c.in_ok-adds.ensures c.in_ok-back.ensures c.in_ok-rest.ensures
