use Rattle.std.proofs.Common.{◌≡◌, ◌++◌, drop, take}
use Rattle.cycle_core.specs.Changing.{all_staged}
use Rattle.cycle_core.proofs.changing.stage_all.Given as goal

-- those before are told
abbrev pub invariant-loop-steps : goal.invariant-loop-steps
invariant-loop-steps l = l.steps-items ≡ all_staged l.side l.missing (take l.steps-index l.fn.courses.items) ++ drop l.steps-index l.fn.courses.items
