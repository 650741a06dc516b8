-- A rise stays a rise, seen from earlier or later counts.
use Rattle.std.proofs.Common.{ℕ, ◌≤◌, inl, inr, arith}
use Rattle.fault_count.specs.Rose.{Rose}

-- what rose has still risen where the count stands higher by now
pub Rose-later : (old new later : ℕ) → Rose old new → new ≤ later → Rose old later
Rose-later old new later (inl rose) up = inl (omega arith)
Rose-later old new later (inr full) up = inr (omega arith)

-- what rose since a later moment rose since an earlier one
pub Rose-earlier : (earlier old new : ℕ) → earlier ≤ old → Rose old new → Rose earlier new
Rose-earlier earlier old new up (inl rose) = inl (omega arith)
Rose-earlier earlier old new up (inr full) = inr (omega arith)
