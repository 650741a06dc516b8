use Rattle.frame_text.proofs.Folding.{folds_more, no_frames, one_fold}
use Rattle.frame_text.proofs.laws.one_fold.Goals as goal

pub returns-clause-one : goal.returns-clause-one
returns-clause-one c = one_fold

pub returns-clause-none : goal.returns-clause-none
returns-clause-none c = no_frames

pub returns-clause-more : goal.returns-clause-more
returns-clause-more c = folds_more
