use Rattle.std.proofs.Common.{refl}
use Rattle.mode_rules.specs.Plans.{change_at, line_at, conflict_at}
use Rattle.mode_rules.specs.Trees.{is_in_folders}
use Rattle.cycle_law.proofs.Evaluating.{maps_of_paths}
use Rattle.cycle_law.proofs.laws.worked_reports.Goals as goal

pub returns-clause-refused : goal.returns-clause-refused
unfolding change_at line_at conflict_at is_in_folders
returns-clause-refused c = (simp (maps_of_paths) refl, simp (maps_of_paths) refl, simp (maps_of_paths) refl, simp (maps_of_paths) refl, simp (maps_of_paths) refl)

pub returns-clause-skipped : goal.returns-clause-skipped
unfolding change_at line_at conflict_at is_in_folders
returns-clause-skipped c = (simp (maps_of_paths) refl, simp (maps_of_paths) refl, simp (maps_of_paths) refl)

pub returns-clause-halt : goal.returns-clause-halt
unfolding change_at line_at conflict_at is_in_folders
returns-clause-halt c = (simp (maps_of_paths) refl, simp (maps_of_paths) refl, refl, simp (maps_of_paths) refl)

pub returns-clause-fault : goal.returns-clause-fault
unfolding change_at line_at conflict_at is_in_folders
returns-clause-fault c = (simp (maps_of_paths) refl, refl, refl, simp (maps_of_paths) refl)

pub returns-clause-settles : goal.returns-clause-settles
unfolding change_at line_at conflict_at is_in_folders
returns-clause-settles c = (refl, simp (maps_of_paths) refl, simp (maps_of_paths) refl, simp (maps_of_paths) refl, simp (maps_of_paths) refl, refl, refl)

pub returns-clause-unstaged : goal.returns-clause-unstaged
unfolding change_at line_at conflict_at is_in_folders
returns-clause-unstaged c = (simp (maps_of_paths) refl, simp (maps_of_paths) refl, simp (maps_of_paths) refl, simp (maps_of_paths) refl)
