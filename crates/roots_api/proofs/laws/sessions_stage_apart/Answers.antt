use Rattle.roots_api.proofs.Stagings.{after_other, edits_leave, clear_here}
use Rattle.roots_api.proofs.laws.sessions_stage_apart.Goals as goal

pub returns-clause-apart : goal.returns-clause-apart
returns-clause-apart c s id other op answer h = after_other s id other op answer h

pub returns-clause-editor : goal.returns-clause-editor
returns-clause-editor c = edits_leave

pub returns-clause-cleared : goal.returns-clause-cleared
returns-clause-cleared c = clear_here
