use Rattle.std.proofs.Common.{refl}
use Rattle.mode_rules.specs.Plans.{change_at, line_at, conflict_at}
use Rattle.mode_rules.specs.Trees.{is_in_folders}
use Rattle.cycle_law.proofs.Evaluating.{maps_of_paths}
use Rattle.cycle_law.proofs.laws.worked_sessions.Goals as goal

pub returns-clause-deletion : goal.returns-clause-deletion
unfolding change_at line_at conflict_at is_in_folders
returns-clause-deletion c = simp (maps_of_paths) refl

pub returns-clause-shown : goal.returns-clause-shown
unfolding change_at line_at conflict_at is_in_folders
returns-clause-shown c = simp (maps_of_paths) refl

pub returns-clause-unsound : goal.returns-clause-unsound
unfolding change_at line_at conflict_at is_in_folders
returns-clause-unsound c = (simp (maps_of_paths) refl, simp (maps_of_paths) refl, simp (maps_of_paths) refl)

pub returns-clause-wrong : goal.returns-clause-wrong
unfolding change_at line_at conflict_at is_in_folders
returns-clause-wrong c = (simp (maps_of_paths) refl, simp (maps_of_paths) refl)

pub returns-clause-halted : goal.returns-clause-halted
unfolding change_at line_at conflict_at is_in_folders
returns-clause-halted c = simp (maps_of_paths) refl

pub returns-clause-rests : goal.returns-clause-rests
unfolding change_at line_at conflict_at is_in_folders
returns-clause-rests c = simp (maps_of_paths) refl
