-- Which calls of an object in memory are to fail.
use Rattle.std.specs.Prelude.{ℕ, ◌+◌, List, min, Contains}
use Rattle.outside_io.specs.declared.limits.TheConstants.{MOST_COUNTED}

-- the numbers of the calls that are to fail, counted from 0, and how many calls were made
pub record Calls : Type 0 where
  pub failing : List ℕ
  pub made : ℕ

-- the next call is to fail
abbrev pub IsToFail : Calls → Type 0
IsToFail calls = Contains calls.failing calls.made

-- after one more call; their number stays at 2^64 - 1
abbrev pub after_call : Calls → Calls
after_call calls = record { failing = calls.failing; made = min (calls.made + 1) MOST_COUNTED }
