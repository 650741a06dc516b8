use Rattle.ancestor_store.proofs.BadFrames.{not_both, not_neither, one_bad}
use Rattle.ancestor_store.proofs.laws.one_answer_of_frames.Goals as goal

pub returns-clause-not_both : goal.returns-clause-not_both
returns-clause-not_both c = not_both

pub returns-clause-one_bad : goal.returns-clause-one_bad
returns-clause-one_bad c = one_bad

pub returns-clause-not_neither : goal.returns-clause-not_neither
returns-clause-not_neither c = not_neither
