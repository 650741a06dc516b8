use Rattle.std.proofs.Common.{◌≡◌, ◌++◌}
use Rattle.std.specs.List.{filter_map}
use Rattle.cycle_core.specs.Planning.{seen_problem}
use Rattle.cycle_core.proofs.planning.add_seen.Given as goal

-- the problems so far, and those to come
abbrev pub invariant-loop-path : goal.invariant-loop-path
invariant-loop-path l =
    l.problems ++ filter_map (seen_problem l.side) l.path-iterator ≡ l.fn.problems ++ filter_map (seen_problem l.side) l.initial.path-iterator
