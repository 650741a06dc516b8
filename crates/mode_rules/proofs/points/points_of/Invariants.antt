use Rattle.std.proofs.Common.{◌≡◌, ◌++◌, drop}
use Rattle.std.specs.List.{filter}
use Rattle.mode_rules.specs.Trees.{is_in_folders}
use Rattle.mode_rules.proofs.points.points_of.Given as goal

-- the points so far, and those to come
abbrev pub invariant-loop-path : goal.invariant-loop-path
invariant-loop-path l =
    l.points ++ filter (is_in_folders l.alpha l.beta l.paths) (drop l.path-index l.paths)
    ≡ filter (is_in_folders l.alpha l.beta l.paths) l.paths
