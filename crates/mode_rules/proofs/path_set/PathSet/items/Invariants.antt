use Rattle.std.proofs.Common.{◌≡◌, ◌++◌, map}
use Rattle.std.specs.FinMap as trees
use Rattle.mode_rules.proofs.path_set.PathSet.items.Given as goal

-- the paths so far, and those to come
abbrev pub invariant-keys : goal.invariant-keys
invariant-keys l = l.paths ++ map (λ e. e.0) l.path-iterator ≡ trees.keys l.self
