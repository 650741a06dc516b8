-- Which outcome a cycle may report.
use Rattle.std.specs.Prelude.{Bool, true, false, not, ◌&&◌, ◌||◌, List, [], ◌∷◌, nat_lt, is_some}
use Rattle.std.specs.List.{list_any}
use Rattle.std.specs.Option.{option_map_or}
use Rattle.entry_tree.specs.declared.side.Side.{Side}
use Rattle.entry_tree.specs.declared.side.Side.TheVariants.{Alpha, Beta}
use Rattle.mode_rules.specs.declared.halt.Halt.{Halt}
use Rattle.mode_rules.specs.declared.report.Outcome.{Outcome}
use Rattle.mode_rules.specs.declared.report.Outcome.TheVariants as outcome
use Rattle.roots_api.specs.Answers.{is_failed}
use Rattle.roots_api.specs.declared.event.Span.{Span}
use Rattle.roots_api.specs.declared.op.Op.{Op}
use Rattle.scan_laws.specs.Bounds.{is_fetch}
use Rattle.scan_laws.specs.ScanLists.{rows_heard}
use Rattle.scan_laws.specs.Seen.{Heard}
use Rattle.cycle_law.specs.Cycles.{Session, Cycle, Ground, log_of, heard_on, scanned_on}
use Rattle.cycle_law.specs.Plans.{plan}
use Rattle.cycle_law.specs.ReportSameness.{same_halt}
use Rattle.cycle_law.specs.Saw.{is_whole_on}
use Rattle.cycle_law.specs.Unlogged.{Unlogged, unheard_on}

-- whether there are any
abbrev pub has_any : List Op → Bool
has_any [] = false
has_any (op ∷ ops) = true

-- whether an operation other than a Fetch failed
abbrev pub is_fault : Heard Span → Bool
is_fault h = is_failed h.answer && not (is_fetch h.op)

module _ (session : Session) (g : Ground) (c : Cycle) (u : Unlogged) where
  -- whether the scan of a side listed more rows than a side may have
  abbrev pub has_too_many : Side → Bool
  has_too_many side = nat_lt session.entries (rows_heard (scanned_on g c side))

  -- WHETHER A PLAN STANDS: both scans were whole, and there was memory to plan
  abbrev pub has_plan : Bool
  has_plan = is_whole_on session g c Alpha && (is_whole_on session g c Beta && u.planned)

  -- whether a plan stands that is halted, and by this reason
  abbrev pub is_halted : Bool
  is_halted = has_plan && is_some (plan session g c).halt

  abbrev pub is_halted_by : Halt → Bool
  is_halted_by why = has_plan && option_map_or (same_halt why) (plan session g c).halt false

  -- whether a plan stands that isn't halted
  abbrev pub may_go_on : Bool
  may_go_on = has_plan && not (is_some (plan session g c).halt)

  -- whether a side's root failed, or was full, and its count rose
  abbrev pub has_fault : Side → Bool
  has_fault side = list_any is_fault (heard_on c (log_of g side)) && (unheard_on u side).faults_rose

  abbrev pub has_full : Side → Bool
  has_full side = has_any (unheard_on u side).full && (unheard_on u side).full_rose

  -- whether one of the causes holds that leave no choice: too many rows, or a halt
  abbrev pub is_decided : Bool
  is_decided = has_too_many Alpha || (has_too_many Beta || is_halted)

  -- AN OUTCOME HAS ITS CAUSE. Too many rows and a halt are told exactly where they are, but for want of memory, which is free.
  abbrev pub has_cause : Outcome → Bool
  has_cause outcome.Done = may_go_on && not (is_decided || u.append_failed)
  has_cause (outcome.Halted why) = is_halted_by why
  has_cause outcome.Stopped = u.stopped && not is_decided
  has_cause (outcome.TooMany side) = has_too_many side
  has_cause (outcome.Fault side) = has_fault side && not is_decided
  has_cause (outcome.RootFull side) = has_full side && not is_decided
  has_cause outcome.KeeperFault = u.append_failed && (u.keeper_rose && not is_decided)
  has_cause outcome.NoMemory = true
