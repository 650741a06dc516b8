use Rattle.std.proofs.Common.{refl}
use Rattle.frame_text.proofs.laws.frames_can_be_spelt.Goals as goal

pub returns-clause-agree : goal.returns-clause-agree
returns-clause-agree c = λ run cycle lines r k h. ((r, k), h.1, h.0)

pub returns-clause-reset : goal.returns-clause-reset
returns-clause-reset c = λ number h k. ((h, k), tt, refl)
