use Rattle.std.proofs.Common.{refl}
use Rattle.session_table.proofs.Sound.{sound_step}
use Rattle.session_table.proofs.laws.every_table_is_sound.Goals as goal

pub returns-clause-empty : goal.returns-clause-empty
returns-clause-empty c = λ run. ((λ id none. refl), tt)

pub returns-clause-step : goal.returns-clause-step
returns-clause-step c = sound_step

pub returns-clause-run : goal.returns-clause-run
returns-clause-run c = λ run m sound. sound
