use Rattle.std.proofs.Common.{◌≡◌, ◌∷◌, ◌+◌, length}
use Rattle.ancestor_store.specs.Keeping.{bytes_of}
use Rattle.ancestor_store.specs.Opening.{Opened}
use Rattle.ancestor_store.proofs.opening.folded_behind.Given as goal

abbrev pub invariant-loop-frame : goal.invariant-loop-frame
invariant-loop-frame l = Opened (l.first ∷ bytes_of l.fn.behind) l.ancestor l.number (bytes_of l.rest) × (l.number + length l.rest ≡ 1 + length l.fn.behind)

abbrev pub decreases-loop-frame : goal.decreases-loop-frame
decreases-loop-frame l = length l.rest
