-- The scans of both sides.
use Rattle.std.specs.Prelude.{◌≡◌, ℕ, Option, Result}
use Rattle.entry_tree.specs.Tree.{ByPath}
use Rattle.entry_tree.specs.declared.atom.Atom.{Atom}
use Rattle.entry_tree.specs.declared.side.Side.{Side}
use Rattle.entry_tree.specs.declared.side.Side.TheVariants.{Alpha, Beta}
use Rattle.roots_api.specs.declared.op.Op.{Op}
use Rattle.scan_cache.specs.declared.line.Line.{Line}
use Rattle.scan_core.specs.Scan.{ScanTold, asked, new_scan, state_of, Takes}
use Rattle.scan_core.specs.Told.{Told}
use Rattle.scan_core.specs.declared.scan_end.ScanEnd.{ScanEnd}
use Rattle.cycle_core.specs.declared.looks.Looks.{Looks}

-- two scans that were told nothing
abbrev pub new_looks : ℕ → ℕ → ByPath Atom → Looks
new_looks entries size ancestor = record { alpha = new_scan entries size; beta = new_scan entries size; ancestor = ancestor }

-- the scan of a side
abbrev pub scan_on : Looks → Side → ScanTold
scan_on l Alpha = l.alpha
scan_on l Beta = l.beta

abbrev pub with_scan : Looks → Side → ScanTold → Looks
with_scan l Alpha scan = record { alpha = scan; beta = l.beta; ancestor = l.ancestor }
with_scan l Beta scan = record { alpha = l.alpha; beta = scan; ancestor = l.ancestor }

-- a take on one side leaves the other
pub record TakesOn (side : Side) (old : Looks) (t : Told) (result : Result Unit ScanEnd) (new : Looks) (cache : ByPath Line) : Type 0 where
  pub takes : Takes (scan_on old side) t result (scan_on new side) cache
  pub other : new ≡ with_scan old side (scan_on new side)

-- the scan in course, and both
pub record Looking : Type 0 where
  pub side : Side
  pub looks : Looks

-- what is asked next
abbrev pub looks_next : Side → Looks → Option Op
looks_next side l = asked (state_of (scan_on l side))
