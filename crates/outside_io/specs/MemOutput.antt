-- A sink in memory.
use Rattle.std.specs.Prelude.{ℕ, List}
use Rattle.outside_io.specs.Calls.{Calls}

-- the bytes that were written, the calls that are to fail, and how many faults there were
pub record MemOutput : Type 0 where
  pub bytes : List ℕ
  pub calls : Calls
  pub faults : ℕ
