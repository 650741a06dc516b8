use Rattle.std.proofs.Common.{◌≡◌, ◌++◌, drop, None}
use Rattle.std.specs.List.{filter_map}
use Rattle.transition_plan.specs.Stepping.{creation}
use Rattle.transition_plan.proofs.planning.creations.Given as goal

-- the steps so far, and those to come
abbrev pub invariant-loop-path : goal.invariant-loop-path
invariant-loop-path l = l.steps.items ++ filter_map (creation None) (drop l.path-index l.entries) ≡ filter_map (creation None) l.entries
