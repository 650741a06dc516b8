-- The plan of a cycle, once both sides are seen.
use Rattle.std.specs.Prelude.{ℕ, false, List, [], ◌++◌, Option, Some, None, if◌then◌else◌}
use Rattle.std.specs.FinMap as map
use Rattle.std.specs.List.{filter_map}
use Rattle.entry_tree.specs.Tree.{Names}
use Rattle.entry_tree.specs.declared.atom.Atom.{Atom}
use Rattle.entry_tree.specs.declared.atom.Atom.TheVariants as atom
use Rattle.entry_tree.specs.declared.problem_kind.ProblemKind.{ProblemKind}
use Rattle.entry_tree.specs.declared.problem_kind.ProblemKind.TheVariants as kind
use Rattle.entry_tree.specs.declared.side.Side.{Side}
use Rattle.entry_tree.specs.declared.side.Side.TheVariants.{Alpha, Beta}
use Rattle.mode_rules.specs.Plans.{plan_of}
use Rattle.mode_rules.specs.declared.halt.Halt.{Halt}
use Rattle.mode_rules.specs.declared.mode.Mode.{Mode}
use Rattle.mode_rules.specs.declared.plan.Plan.{Plan}
use Rattle.mode_rules.specs.declared.problem.Cause.{Cause}
use Rattle.mode_rules.specs.declared.problem.Cause.TheVariants as cause
use Rattle.mode_rules.specs.declared.problem.Problem.{Problem}
use Rattle.mode_rules.specs.declared.report.Outcome.TheVariants.{Done, Halted, NoMemory}
use Rattle.scan_core.specs.Scan.{ScanTold, state_of}
use Rattle.stage_core.specs.Needs.{needs_of}
use Rattle.stage_core.specs.Told.{new_staging}
use Rattle.cycle_core.specs.Changing.{courses_on}
use Rattle.cycle_core.specs.Ending.{Memory, report, ended_early, to_stages}
use Rattle.cycle_core.specs.UnderWay.{UnderWay}
use Rattle.cycle_core.specs.declared.looks.Looks.{Looks}
use Rattle.cycle_core.specs.declared.planning.Made.{Made}
use Rattle.cycle_core.specs.declared.planning.Made.TheVariants.{Halts, Works}
use Rattle.cycle_core.specs.declared.stand.Next.{Next}
use Rattle.cycle_core.specs.declared.stand.Next.TheVariants.{Ends}

-- ---- the problems of a scan

abbrev pub cause_of : ProblemKind → Cause
cause_of kind.Changed = cause.Changed
cause_of kind.TooLarge = cause.TooLarge
cause_of kind.Failed = cause.Failed

-- a path that was seen as a problem
abbrev pub seen_problem : Side → Names × Atom → Option Problem
seen_problem side (path, atom.Problem k) = Some (record { side = side; path = path; cause = cause_of k })
seen_problem side e = None

-- those of a side, in path order
abbrev pub seen_problems : Side → ScanTold → List Problem
seen_problems side scan = filter_map (seen_problem side) (map.entries (state_of scan).board.seen)

-- of both, alpha's first
abbrev pub all_seen : Looks → List Problem
all_seen l = seen_problems Alpha l.alpha ++ seen_problems Beta l.beta

-- ---- the plan

-- what is under way by a plan: nothing is staged, and nothing is changed yet
abbrev pub under_way : Looks → Plan → UnderWay
under_way l p = record {
  outcome = Done;
  conflicts = p.conflicts;
  seen = all_seen l;
  agreed = p.agreed;
  alpha = new_staging Alpha (needs_of Alpha (state_of l.beta).board.stamps p.changes);
  beta = new_staging Beta (needs_of Beta (state_of l.alpha).board.stamps p.changes);
  alpha_asked = false;
  beta_asked = false;
  courses = courses_on Alpha (state_of l.alpha).board.stamps p.changes ++ courses_on Beta (state_of l.beta).board.stamps p.changes;
}

-- what is made of the plan: a halted cycle reports the problems of its scans alone
abbrev pub made_by : Looks → Plan → Option Halt → Made
made_by l p (Some halt) = Halts halt (all_seen l)
made_by l p None = Works (under_way l p)

-- THE PLAN, by the mode's table
abbrev pub plan : Mode → Looks → Plan
plan mode l = plan_of mode (record { ancestor = l.ancestor; alpha = (state_of l.alpha).board.seen; beta = (state_of l.beta).board.seen })

abbrev pub made : Mode → Looks → Made
made mode l = made_by l (plan mode l) (plan mode l).halt

module _ (run cycle : ℕ) where
  abbrev pub planned_by : Memory → Made → Next
  planned_by memory (Halts halt seen) = Ends (report run cycle (Halted halt) [] seen)
  planned_by memory (Works w) = to_stages run cycle memory w

  -- once both scans are whole: without memory the plan doesn't stand, and the cycle ends
  abbrev pub planned : Memory → Made → Next
  planned memory m = if memory.plan then planned_by memory m else ended_early run cycle NoMemory
