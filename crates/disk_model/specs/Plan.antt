-- Which calls of a disk in memory fail.
use Rattle.std.specs.Prelude.{ℕ, ◌+◌, ◌-◌, ◌^◌, ◌==◌, nat_lt, List, Option, Some, None, min, if◌then◌else◌}
use Rattle.std.specs.List.{list_any}
use Rattle.disk_model.specs.declared.plan.Fate.{Fate}
use Rattle.disk_model.specs.declared.plan.Fate.TheVariants.{Made, Torn, Stopped}

-- the numbers of the calls that are to fail, counted from 0, the number of the call at which the disk stops, and how
-- many calls were made
pub record Plan : Type 0 where
  pub failing : List ℕ
  pub stop : Option ℕ
  pub made : ℕ

-- a call of this number, where the disk doesn't stop before it
abbrev pub fate_in : List ℕ → ℕ → Fate
fate_in failing number = if list_any (λ n. n == number) failing then Torn else Made

abbrev pub fate_at : List ℕ → Option ℕ → ℕ → Fate
fate_at failing None number = fate_in failing number
fate_at failing (Some stop) number = if nat_lt stop number then Stopped else (if number == stop then Torn else fate_in failing number)

-- what becomes of the next call
abbrev pub fate_of : Plan → Fate
fate_of plan = fate_at plan.failing plan.stop plan.made

-- after one more call; their number stays at 2^64 - 1
abbrev pub after_call : Plan → Plan
after_call plan = record { failing = plan.failing; stop = plan.stop; made = min (plan.made + 1) (2 ^ 64 - 1) }
