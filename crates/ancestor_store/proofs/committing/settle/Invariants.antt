use Rattle.std.proofs.Common.{length}
use Rattle.entry_tree.specs.Atom.{is_dir}
use Rattle.entry_tree.specs.Tree.{ByPath, IsClosed}
use Rattle.entry_tree.specs.declared.atom.Atom.{Atom}
use Rattle.ancestor_store.specs.Settling.{Settles}
use Rattle.ancestor_store.proofs.committing.settle.Given as goal

abbrev pub invariant-loop-line : goal.invariant-loop-line
invariant-loop-line l = (to : ByPath Atom) → IsClosed is_dir to → Settles l.initial.tree to l.initial.lines → Settles l.tree to l.lines

abbrev pub decreases-loop-line : goal.decreases-loop-line
decreases-loop-line l = length l.lines
