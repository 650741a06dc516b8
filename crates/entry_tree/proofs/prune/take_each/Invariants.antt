use Rattle.std.proofs.Common.{◌≡◌, not}
use Rattle.std.specs.List.{filter}
use Rattle.entry_tree.specs.Tree.{is_below}
use Rattle.entry_tree.proofs.prune.take_each.Given as goal

-- what is to stay is still there
abbrev pub invariant-loop : goal.invariant-loop
invariant-loop g l = filter (λ e. not (is_below e.0 l.path)) l.map.entries ≡ filter (λ e. not (is_below e.0 l.path)) l.initial.map.entries
