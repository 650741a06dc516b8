-- Which reports of a cycle are right.
use lib.Pointwise.{pointwise}
use Rattle.std.specs.Prelude.{ℕ, Bool, true, false, not, ◌&&◌, ◌||◌, ◌==◌, List, [], ◌∷◌, ◌++◌, bytes_eq, Option, Some, None, if◌then◌else◌}
use Rattle.std.specs.List.{list_all, list_any}
use Rattle.std.specs.Option.{option_map_or}
use Rattle.entry_tree.specs.Side.{other_side}
use Rattle.entry_tree.specs.Tree.{Names}
use Rattle.entry_tree.specs.declared.side.Side.{Side}
use Rattle.entry_tree.specs.declared.side.Side.TheVariants.{Alpha, Beta}
use Rattle.mode_rules.specs.Laws.{is_of}
use Rattle.mode_rules.specs.declared.change.PlacedFile.{PlacedFile}
use Rattle.mode_rules.specs.declared.conflict.Conflict.{Conflict}
use Rattle.mode_rules.specs.declared.problem.Cause.{Cause}
use Rattle.mode_rules.specs.declared.problem.Problem.{Problem}
use Rattle.mode_rules.specs.declared.report.CycleReport.{CycleReport}
use Rattle.mode_rules.specs.declared.report.Outcome.TheVariants as outcome
use Rattle.roots_api.specs.declared.answer.Answer.{Answer}
use Rattle.roots_api.specs.declared.event.Span.{Span}
use Rattle.roots_api.specs.declared.op.Op.{Op}
use Rattle.roots_api.specs.declared.op.Op.TheVariants.{Fetch, StageKeep, Place, MakeDir, MakeLink, Remove, SetExec}
use Rattle.scan_laws.specs.Seen.{Heard, same_path}
use Rattle.cycle_law.specs.Cycles.{Session, Cycle, Ground, log_of, heard_on}
use Rattle.cycle_law.specs.Outcomes.{has_cause, has_plan, may_go_on}
use Rattle.cycle_law.specs.Plans.{plan}
use Rattle.cycle_law.specs.Problems.{seen_problems, changing_problems, are_all_accounted}
use Rattle.cycle_law.specs.ReportSameness.{same_outcome, same_conflict, same_problem, same_cause, is_among, is_part}
use Rattle.cycle_law.specs.Staged.{cause_of, fetch_cause, staging_fetches, staging_problems, needed}
use Rattle.cycle_law.specs.Unlogged.{Unlogged}

-- ---- a problem for each answer in the logs

-- whether the problem of this cause, if there is one, stands at this path among some
abbrev pub is_told : List Problem → Side → Names → Option Cause → Bool
is_told problems side path why = option_map_or (λ w. is_among problems (record { side = side; path = path; cause = w })) why true

-- whether a file with this digest is needed at a path
abbrev pub is_needed_at : List PlacedFile → List ℕ → Names → Bool
is_needed_at files digest path = list_any (λ (file : PlacedFile). same_path file.path path && bytes_eq file.digest digest) files

-- whether a problem of this cause stands among some at the path of a file with this digest
abbrev pub is_keep_told : List Problem → Side → List PlacedFile → List ℕ → Option Cause → Bool
is_keep_told problems side files digest why =
    option_map_or (λ w. list_any (λ (p : Problem). is_of p.side side && (same_cause p.cause w && is_needed_at files digest p.path)) problems) why true

-- whether an operation of a side that changes a tree or keeps a file has its problem, if its answer gives one
abbrev pub has_problem : List Problem → Side → List PlacedFile → Op → Answer Span → Bool
has_problem problems side files (StageKeep digest) answer = is_keep_told problems side files digest (cause_of answer)
has_problem problems side files (Place path digest exec expected) answer = is_told problems side path (cause_of answer)
has_problem problems side files (MakeDir path) answer = is_told problems side path (cause_of answer)
has_problem problems side files (MakeLink path text expected) answer = is_told problems side path (cause_of answer)
has_problem problems side files (Remove path expected) answer = is_told problems side path (cause_of answer)
has_problem problems side files (SetExec path expected on) answer = is_told problems side path (cause_of answer)
has_problem problems side files op answer = true

-- whether a staging Fetch has its problem, on the side that needs the file
abbrev pub has_fetch_problem : List Problem → Side → Op → Answer Span → Bool
has_fetch_problem problems side (Fetch path stamp offset) answer = is_told problems side path (fetch_cause answer)
has_fetch_problem problems side op answer = true

module _ (session : Session) (g : Ground) (c : Cycle) (problems : List Problem) (side : Side) where
  -- whether each answer on a side has its problem, and each to a staging Fetch on the other side
  abbrev pub tells_all : Bool
  tells_all =
      list_all (λ (h : Heard Span). has_problem problems side (needed session g c side) h.op h.answer) (heard_on c (log_of g side))
      && list_all (λ (h : Heard Span). has_fetch_problem problems side h.op h.answer) (staging_fetches session g c (other_side side))

-- ---- the report

-- the problems behind these first ones, if they stand first
abbrev pub behind : List Problem → List Problem → Option (List Problem)
behind [] problems = Some problems
behind (first ∷ more) [] = None
behind (first ∷ more) (p ∷ problems) = if same_problem first p then behind more problems else None

-- the paths seen as problems, alpha's first
abbrev pub all_seen : Session → Ground → Cycle → List Problem
all_seen session g c = seen_problems session g c Alpha ++ seen_problems session g c Beta

module _ (session : Session) (g : Ground) (c : Cycle) (u : Unlogged) where
  -- the problems of operations, as they arose: of staging, and of changes, each alpha's first
  abbrev pub all_met : List Problem
  all_met = (staging_problems session g c Alpha ++ staging_problems session g c Beta) ++ (changing_problems session g c u Alpha ++ changing_problems session g c u Beta)

  -- whether an end may stand beside these problems of operations: with `done` they are all, and each operation of the plan is accounted for; with any
  -- other end but `no-memory` each answer in the logs has its problem
  abbrev pub is_complete : CycleReport → List Problem → Bool
  is_complete report problems =
      if same_outcome report.outcome outcome.NoMemory then true
      else (tells_all session g c problems Alpha && (tells_all session g c problems Beta
      && (not (same_outcome report.outcome outcome.Done)
      || (is_part all_met problems && (are_all_accounted session g c u Alpha && are_all_accounted session g c u Beta)))))

  -- whether the problems of operations are right: each is one that the plan and the logs give, and none is left out that may not be
  abbrev pub are_right : CycleReport → List Problem → Bool
  are_right report problems = is_part problems all_met && is_complete report problems

  abbrev pub conflicts_due : List Conflict
  conflicts_due = if may_go_on session g c u then (plan session g c).conflicts else []

  -- A RIGHT REPORT: its outcome has its cause; its conflicts are the plan's, if a plan stands that isn't halted; and with a plan its problems are the paths
  -- seen as problems, and then right ones of operations. With no plan it has none.
  abbrev pub is_right : CycleReport → Bool
  is_right report =
      (report.cycle == c.number) && (has_cause session g c u report.outcome && (pointwise same_conflict report.conflicts conflicts_due
      && (if has_plan session g c u then option_map_or (are_right report) (behind (all_seen session g c) report.problems) false else pointwise same_problem report.problems [])))
