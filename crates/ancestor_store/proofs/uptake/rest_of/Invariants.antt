use Rattle.std.proofs.Common.{◌≡◌, ◌++◌, drop}
use Rattle.std.specs.List.{flat_map}
use Rattle.ancestor_store.specs.Uptakes.{clear_lines}
use Rattle.ancestor_store.proofs.uptake.rest_of.Given as goal

-- the lines so far, and those to come
abbrev pub invariant-loop-line : goal.invariant-loop-line
invariant-loop-line l = l.rest ++ flat_map (clear_lines l.tree l.outcome) (drop l.line-index l.lines) ≡ l.initial.rest ++ flat_map (clear_lines l.tree l.outcome) l.lines
