use Rattle.ancestor_store.proofs.Wholes.{compacted_bad, compacted_folds}
use Rattle.ancestor_store.proofs.laws.compaction_keeps_the_fold.Goals as goal

pub returns-clause-fold : goal.returns-clause-fold
returns-clause-fold c = compacted_folds

pub returns-clause-bad : goal.returns-clause-bad
returns-clause-bad c = λ run number old new. compacted_bad run old new number
