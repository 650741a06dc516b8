use Rattle.std.proofs.Common.{◌≡◌, ◌++◌, drop}
use Rattle.std.specs.List.{filter_map}
use Rattle.transition_plan.specs.Stepping.{removal}
use Rattle.transition_plan.proofs.planning.removals.Given as goal

-- the steps so far, and those to come
abbrev pub invariant-loop-path : goal.invariant-loop-path
invariant-loop-path l = l.steps.items ++ filter_map (removal l.stamps) (drop l.path-index l.entries) ≡ filter_map (removal l.stamps) l.entries
