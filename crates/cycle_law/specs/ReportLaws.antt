-- What a right report comes to.
use Rattle.std.specs.Prelude.{◌≡◌, ◌⊎◌, true, ◌++◌, Some}
use Rattle.mode_rules.specs.declared.halt.Halt.{Halt}
use Rattle.mode_rules.specs.declared.report.CycleReport.{CycleReport}
use Rattle.mode_rules.specs.declared.report.Outcome.TheVariants as outcome
use Rattle.cycle_law.specs.Cycles.{Session, Cycle, Ground}
use Rattle.cycle_law.specs.Outcomes.{has_plan}
use Rattle.cycle_law.specs.Plans.{plan}
use Rattle.cycle_law.specs.Reports.{all_met, all_seen, is_right}
use Rattle.cycle_law.specs.Unlogged.{Unlogged}

-- With `done` a right report has the plan's conflicts, and just the problems that the scans, the plan and the logs give, in order.
abbrev pub DoneTellsAll : Type 0
DoneTellsAll =
    (session : Session) (g : Ground) (c : Cycle) (u : Unlogged) (report : CycleReport) → is_right session g c u report ≡ true → report.outcome ≡ outcome.Done
    → (report.conflicts ≡ (plan session g c).conflicts) × (report.problems ≡ all_seen session g c ++ all_met session g c u)

-- Where a plan stands that is halted, a right report tells the halt, or want of memory.
abbrev pub HaltIsExact : Type 0
HaltIsExact =
    (session : Session) (g : Ground) (c : Cycle) (u : Unlogged) (report : CycleReport) → is_right session g c u report ≡ true
    → has_plan session g c u ≡ true → (why : Halt) → (plan session g c).halt ≡ Some why → (report.outcome ≡ outcome.Halted why) ⊎ (report.outcome ≡ outcome.NoMemory)
