-- How a cycle comes to its end: phases without requests are passed over, the last phase first.
use Rattle.std.specs.Prelude.{◌≡◌, ℕ, Bool, List, [], if◌then◌else◌, is_some}
use Rattle.entry_tree.specs.declared.side.Side.TheVariants.{Alpha, Beta}
use Rattle.frame_text.specs.Agreed.{are_agreed}
use Rattle.frame_text.specs.declared.frame.Frame.TheVariants.{Agree}
use Rattle.mode_rules.specs.declared.ancestor_line.AncestorLine.{AncestorLine}
use Rattle.mode_rules.specs.declared.conflict.Conflict.{Conflict}
use Rattle.mode_rules.specs.declared.problem.Problem.{Problem}
use Rattle.mode_rules.specs.declared.report.CycleReport.{CycleReport}
use Rattle.mode_rules.specs.declared.report.Outcome.{Outcome}
use Rattle.mode_rules.specs.declared.report.Outcome.TheVariants.{NoMemory}
use Rattle.roots_api.specs.declared.op.Op.TheVariants.{StageClear}
use Rattle.cycle_core.specs.Changing.{asked as changing_asked}
use Rattle.cycle_core.specs.UnderWay.{UnderWay, lines_of, problems_of, stages_next, with_outcome, with_staged}
use Rattle.cycle_core.specs.declared.stand.Next.{Next}
use Rattle.cycle_core.specs.declared.stand.Next.TheVariants.{Goes, Ends}
use Rattle.cycle_core.specs.declared.stand.Stand.TheVariants.{Stages, Changes, Clears, Commits}

-- What memory there is: to write an answer down, for the next request of a scan, for that of a staging, for the plan, and for the problems of the report.
pub record Memory : Type 0 where
  pub take : Bool
  pub scan : Bool
  pub step : Bool
  pub plan : Bool
  pub report : Bool

-- for some memory, it goes on so
abbrev pub GoesBy : (Memory → Next) → Next → Type 0
GoesBy next result = (memory : Memory) × (result ≡ next memory)

module _ (run : ℕ) (cycle : ℕ) where
  abbrev pub report : Outcome → List Conflict → List Problem → CycleReport
  report outcome conflicts problems = record { cycle = cycle; outcome = outcome; conflicts = conflicts; problems = problems }

  -- before its plan stands: no conflicts and no problems are reported
  abbrev pub ended_early : Outcome → Next
  ended_early outcome = Ends (report outcome [] [])

  -- Its report. Without memory for the problems, only those of the scans are told, and the outcome says so.
  abbrev pub report_of : Memory → UnderWay → CycleReport
  report_of memory w = if memory.report then report w.outcome w.conflicts (problems_of w) else report NoMemory w.conflicts w.seen

  -- the frame is kept, if it has lines, each of which sets a tracked atom or nothing
  abbrev pub committed : List AncestorLine → CycleReport → Next
  committed lines told = if are_agreed lines then Goes (Commits (Agree run cycle lines) told) else Ends told

  abbrev pub to_commit : Memory → UnderWay → Next
  to_commit memory w = committed (lines_of w) (report_of memory w)

  abbrev pub to_clear_beta : Memory → UnderWay → Next
  to_clear_beta memory w = if w.beta_asked then Goes (Clears Beta StageClear w) else to_commit memory w

  abbrev pub to_clear : Memory → UnderWay → Next
  to_clear memory w = if w.alpha_asked then Goes (Clears Alpha StageClear w) else to_clear_beta memory w

  abbrev pub to_changes : Memory → UnderWay → Next
  to_changes memory w = if is_some (changing_asked w.courses) then Goes (Changes w) else to_clear memory w

  -- an outcome other than done: the remaining operations of staging and changes are dropped
  abbrev pub broken : Memory → UnderWay → Outcome → Next
  broken memory w outcome = to_clear memory (with_outcome w outcome)

  -- without memory for the next request of a staging, no further one is made
  abbrev pub to_stages : Memory → UnderWay → Next
  to_stages memory w =
      if memory.step then (if is_some (stages_next w) then Goes (Stages w) else to_changes memory (with_staged w)) else broken memory w NoMemory
