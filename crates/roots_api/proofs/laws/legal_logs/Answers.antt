use Rattle.roots_api.specs.States.{new_root}
use Rattle.roots_api.proofs.Folds.{while_legal}
use Rattle.roots_api.proofs.PathsKept.{tree_holds}
use Rattle.roots_api.proofs.Stagings.{AllAreTrue, deed_true, new_true}
use Rattle.roots_api.proofs.TreesKept.{IsShut, event_shut, new_shut}
use Rattle.roots_api.proofs.laws.legal_logs.Goals as goal

pub returns-clause-closed : goal.returns-clause-closed
returns-clause-closed c log legal = while_legal (λ s. IsShut s.tree) event_shut new_root log legal new_shut

pub returns-clause-paths : goal.returns-clause-paths
returns-clause-paths c = tree_holds

pub returns-clause-kept : goal.returns-clause-kept
returns-clause-kept c log legal = while_legal (λ s. AllAreTrue s.staging) (λ s e l all. deed_true s e.who e.deed e.answer l all) new_root log legal new_true
