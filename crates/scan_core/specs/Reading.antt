-- What was read of a file.
use Rattle.std.specs.Prelude.{◌≡◌, ℕ, List, length}
use Rattle.entry_tree.specs.PieceHasher.{HasTaken}
use Rattle.scan_core.specs.declared.reading.Reading.{Reading}

-- these bytes were read
pub record IsReading (reading : Reading) (bytes : List ℕ) : Type 0 where
  pub taken : HasTaken reading.hasher bytes
  pub count : reading.length ≡ length bytes
