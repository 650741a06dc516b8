use Rattle.std.proofs.Common.{◌≡◌, ◌++◌}
use Rattle.entry_tree.proofs.tree.copying.copies_under.Given as goal

-- the copies so far, and the entries to come
abbrev pub invariant-loop-path : goal.invariant-loop-path
invariant-loop-path g l = l.copies.items ++ l.path-iterator ≡ l.initial.path-iterator
