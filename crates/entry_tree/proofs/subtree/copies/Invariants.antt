use Rattle.std.proofs.Common.{◌≡◌, ◌++◌, drop}
use Rattle.entry_tree.proofs.subtree.copies.Given as goal

-- the copies so far, and the entries to come
abbrev pub invariant-loop-path : goal.invariant-loop-path
invariant-loop-path g l = l.copies.items ++ drop l.path-index l.entries ≡ l.entries
