use Rattle.std.proofs.Common.{◌≡◌, ◌<◌, ◌+◌, ◌^◌, drop}
use Rattle.cycle_core.specs.Rooms.{most_of}
use Rattle.cycle_core.proofs.changing.Changing.most.Given as goal

-- the number so far, and that of the courses to come
abbrev pub invariant-loop-steps : goal.invariant-loop-steps
invariant-loop-steps l = l.most < 2 ^ 63 → l.most + most_of (drop l.steps-index l.self) ≡ most_of l.self
