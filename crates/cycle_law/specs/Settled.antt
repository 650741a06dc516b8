-- What an untouched cycle comes to.
use lib.Pointwise.{pointwise}
use Rattle.std.specs.Prelude.{ℕ, Bool, not, ◌&&◌, ◌||◌, List, [], ◌∷◌, ◌++◌, take, drop, nat_lt, is_some, if◌then◌else◌}
use Rattle.std.specs.FinMap as map
use Rattle.std.specs.List.{flat_map, list_all}
use Rattle.std.specs.Option.{option_map_or}
use Rattle.entry_tree.specs.declared.side.Side.{Side}
use Rattle.entry_tree.specs.declared.side.Side.TheVariants.{Alpha, Beta}
use Rattle.mode_rules.specs.AncestorFold.{with_lines}
use Rattle.mode_rules.specs.Trees.{same_there}
use Rattle.mode_rules.specs.declared.ancestor_line.AncestorLine.{AncestorLine}
use Rattle.mode_rules.specs.declared.halt.Halt.{Halt}
use Rattle.mode_rules.specs.declared.problem.Problem.{Problem}
use Rattle.mode_rules.specs.declared.report.CycleReport.{CycleReport}
use Rattle.mode_rules.specs.declared.report.Outcome.{Outcome}
use Rattle.mode_rules.specs.declared.report.Outcome.TheVariants as outcome
use Rattle.roots_api.specs.States.{RootState}
use Rattle.scan_laws.specs.Look.{look_at}
use Rattle.scan_laws.specs.Undisturbed.{look_rows}
use Rattle.transition_laws.specs.Undisturbed.{problems_left}
use Rattle.cycle_law.specs.Between.{all_stays, others_stay, is_left}
use Rattle.cycle_law.specs.Conserving.{is_nil}
use Rattle.cycle_law.specs.Cycles.{Session, Cycle, Ground}
use Rattle.cycle_law.specs.Frames.{frames_of, has_lines, offered}
use Rattle.cycle_law.specs.Plans.{plan, changes_of}
use Rattle.cycle_law.specs.ReportSameness.{same_outcome, same_conflict, same_problem}
use Rattle.cycle_law.specs.Reports.{all_seen}
use Rattle.cycle_law.specs.Sameness.{same_lines}
use Rattle.cycle_law.specs.Saw.{saw}
use Rattle.cycle_law.specs.Untouched.{WholeLogs, whole_log, whole_ground, state_before, state_behind}

module _ (session : Session) (id : ℕ) (logs : WholeLogs) (c : Cycle) where
  abbrev pub g : Ground
  g = whole_ground id logs c

  abbrev pub start : Side → RootState
  start side = state_before id c (whole_log logs side)

  abbrev pub end : Side → RootState
  end side = state_behind id c (whole_log logs side)

  -- whether the cycle saw a root's look at its start
  abbrev pub saw_look : Side → Bool
  saw_look side =
      list_all (λ p. same_there (map.get (saw session g c side) p) (look_at (start side) session.rules session.size p)) (map.keys (saw session g c side) ++ map.keys (start side).tree)

  -- whether a root has more rows than a side may have
  abbrev pub is_over : Side → Bool
  is_over side = nat_lt session.entries (look_rows (start side) session.rules)

  -- the outcome: too many on the first side that has too many rows, else the plan's halt, else done
  abbrev pub outcome_due : Outcome
  outcome_due =
      if is_over Alpha then outcome.TooMany Alpha
      else (if is_over Beta then outcome.TooMany Beta
      else option_map_or (λ (halt : Halt). outcome.Halted halt) (plan session g c).halt outcome.Done)

  abbrev pub is_scanned : Bool
  is_scanned = not (is_over Alpha) && not (is_over Beta)

  -- the frame of the cycle, if it is to have one
  abbrev pub frames_due : List (List AncestorLine)
  frames_due = if has_lines (offered session g c) then offered session g c ∷ [] else []

  -- whether it stands behind those that the cycle's base counts, and its lines can be taken up; and there is no other one of the cycle
  abbrev pub is_kept_next : Bool
  is_kept_next =
      pointwise same_lines (frames_of logs.frames c) frames_due
      && (pointwise same_lines (frames_of (take 1 (drop c.base logs.frames)) c) frames_due && is_some (with_lines g.ancestor (offered session g c)))

  -- what the changes of both sides leave undone
  abbrev pub left_problems : List Problem
  left_problems = flat_map problems_left (changes_of session g c Alpha ++ changes_of session g c Beta)

  -- whether each change of a side left what it is to leave, and all else stays
  abbrev pub is_changed : Side → Bool
  is_changed side = others_stay (changes_of session g c side) (start side) (end side) && list_all (is_left (start side) (end side)) (changes_of session g c side)

  -- nothing was done
  abbrev pub is_at_rest : Bool
  is_at_rest = all_stays (start Alpha) (end Alpha) && (all_stays (start Beta) (end Beta) && is_nil (frames_of logs.frames c))

  -- all was done
  abbrev pub is_finished : CycleReport → Bool
  is_finished report =
      is_changed Alpha && (is_changed Beta && (is_kept_next && (pointwise same_conflict report.conflicts (plan session g c).conflicts
      && pointwise same_problem report.problems (all_seen session g c ++ left_problems))))

  -- A SETTLED CYCLE, with this report
  abbrev pub is_settled : CycleReport → Bool
  is_settled report =
      same_outcome report.outcome outcome_due && ((not is_scanned || (saw_look Alpha && saw_look Beta))
      && (if same_outcome outcome_due outcome.Done then is_finished report else is_at_rest))
