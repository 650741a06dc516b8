use Rattle.std.proofs.Common.{◌+◌, length}
use Rattle.disk_model.proofs.Moments.{go_on, split_left, goes_on_left, earlier_left, no_shorter}
use Rattle.disk_model.proofs.laws.moments_of_two_runs.Goals as goal

pub returns-clause-goes_on : goal.returns-clause-goes_on
returns-clause-goes_on c old mid new a b = go_on old mid new a b

pub returns-clause-since : goal.returns-clause-since
returns-clause-since c old mid new image on left = split_left (length old) mid new image on left

pub returns-clause-after : goal.returns-clause-after
returns-clause-after c old mid new image on left = split_left (length old + 1) mid new image on left

pub returns-clause-first : goal.returns-clause-first
returns-clause-first c old mid new image on left = goes_on_left (length old) mid new image on left

pub returns-clause-second : goal.returns-clause-second
returns-clause-second c old mid new image on left = earlier_left (length old) (length mid) new image (no_shorter old mid on) left
