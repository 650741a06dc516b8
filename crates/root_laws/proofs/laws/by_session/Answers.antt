use Rattle.root_laws.proofs.Beginnings.{moments_are_of_events, moments_are_of_log, moments_grow}
use Rattle.root_laws.proofs.laws.by_session.Goals as goal

pub returns-clause-events : goal.returns-clause-events
returns-clause-events c = moments_are_of_events

pub returns-clause-moments : goal.returns-clause-moments
returns-clause-moments c = moments_are_of_log

pub returns-clause-grow : goal.returns-clause-grow
returns-clause-grow c = moments_grow
