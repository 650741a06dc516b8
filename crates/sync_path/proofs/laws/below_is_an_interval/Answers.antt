use Rattle.sync_path.proofs.Intervals.{rest_from_under, under_from_rest, under_is_behind, between_is_under}
use Rattle.sync_path.proofs.laws.below_is_an_interval.Goals as goal

pub returns-clause-meaning : goal.returns-clause-meaning
returns-clause-meaning c = λ path other. (rest_from_under path other, λ r. under_from_rest path other r.0 r.1)

pub returns-clause-first : goal.returns-clause-first
returns-clause-first c = under_is_behind

pub returns-clause-between : goal.returns-clause-between
returns-clause-between c = between_is_under
