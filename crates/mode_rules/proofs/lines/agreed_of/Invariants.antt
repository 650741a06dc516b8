use Rattle.std.proofs.Common.{◌≡◌, ◌++◌, drop}
use Rattle.std.specs.List.{filter_map}
use Rattle.mode_rules.specs.Plans.{line_at}
use Rattle.mode_rules.specs.Sights.{trees_of}
use Rattle.mode_rules.proofs.lines.agreed_of.Given as goal

-- the lines so far, and those to come
abbrev pub invariant-loop-path : goal.invariant-loop-path
invariant-loop-path l =
    l.lines ++ filter_map (line_at l.mode (trees_of l.sight)) (drop l.path-index l.points)
    ≡ filter_map (line_at l.mode (trees_of l.sight)) l.points
