use Rattle.frame_journal.proofs.Openings.{one_opening, one_bad_frame, opens_or_bad}
use Rattle.frame_journal.proofs.PairOpening.{one_pair}
use Rattle.frame_journal.proofs.laws.one_opening.Goals as goal

pub returns-clause-payloads : goal.returns-clause-payloads
returns-clause-payloads c ps qs file p q = one_opening ps qs file p q

pub returns-clause-number : goal.returns-clause-number
returns-clause-number c n m file a b = one_bad_frame n m file a b

pub returns-clause-not_both : goal.returns-clause-not_both
returns-clause-not_both c ps n file p b = opens_or_bad ps n file p b

pub returns-clause-pair : goal.returns-clause-pair
returns-clause-pair c ps qs first second p q = one_pair ps qs first second p q
