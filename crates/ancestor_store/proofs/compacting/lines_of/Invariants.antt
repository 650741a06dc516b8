use Rattle.std.proofs.Common.{◌≡◌, ◌++◌, map}
use Rattle.ancestor_store.specs.Compacting.{line_of}
use Rattle.ancestor_store.proofs.compacting.lines_of.Given as goal

-- the lines so far, and those to come
abbrev pub invariant-loop-path : goal.invariant-loop-path
invariant-loop-path l = l.lines ++ map line_of l.path-iterator ≡ map line_of l.initial.path-iterator
