use Rattle.std.proofs.Common.{◌≡◌, ◌++◌}
use Rattle.std.specs.List.{filter_map}
use Rattle.ancestor_store.specs.Uptakes.{back_line}
use Rattle.ancestor_store.proofs.uptake.back_of.Given as goal

-- the lines so far, and those to come
abbrev pub invariant-loop-path : goal.invariant-loop-path
invariant-loop-path l = l.lines ++ filter_map (back_line l.tree) l.path-iterator ≡ filter_map (back_line l.tree) l.initial.path-iterator
