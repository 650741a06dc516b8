use Rattle.std.proofs.Common.{◌≡◌, ◌++◌}
use Rattle.std.specs.List.{filter_map}
use Rattle.ancestor_store.specs.Uptakes.{gone_line}
use Rattle.ancestor_store.proofs.uptake.gone_below.Given as goal

-- the lines so far, and those to come
abbrev pub invariant-loop-below : goal.invariant-loop-below
invariant-loop-below l = l.lines ++ filter_map (gone_line l.outcome) l.below-iterator ≡ filter_map (gone_line l.outcome) l.initial.below-iterator
