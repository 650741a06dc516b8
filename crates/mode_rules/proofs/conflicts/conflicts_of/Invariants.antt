use Rattle.std.proofs.Common.{◌≡◌, ◌++◌, drop}
use Rattle.std.specs.List.{filter_map}
use Rattle.mode_rules.specs.Plans.{conflict_at}
use Rattle.mode_rules.specs.Sights.{trees_of}
use Rattle.mode_rules.proofs.conflicts.conflicts_of.Given as goal

-- the conflicts so far, and those to come
abbrev pub invariant-loop-path : goal.invariant-loop-path
invariant-loop-path l =
    l.conflicts ++ filter_map (conflict_at l.mode (trees_of l.sight)) (drop l.path-index l.points)
    ≡ filter_map (conflict_at l.mode (trees_of l.sight)) l.points
