use Rattle.command_words.proofs.KeywordWords.{one_mode, one_phase, one_stream_side, one_switch}
use Rattle.command_words.proofs.laws.keywords_have_one_word.Goals as goal

pub returns-clause-modes : goal.returns-clause-modes
returns-clause-modes c = one_mode

pub returns-clause-phases : goal.returns-clause-phases
returns-clause-phases c = one_phase

pub returns-clause-ends : goal.returns-clause-ends
returns-clause-ends c = one_stream_side

pub returns-clause-switches : goal.returns-clause-switches
returns-clause-switches c = one_switch
