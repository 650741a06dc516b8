-- WHAT A CYCLE ASKS NEXT, and what it makes of what it is told.
use Rattle.std.specs.Prelude.{◌≡◌, ℕ, List, Option, Some, None, if◌then◌else◌, is_some}
use Rattle.std.specs.FinMap as map
use Rattle.entry_tree.specs.Tree.{ByPath}
use Rattle.entry_tree.specs.declared.atom.Atom.{Atom}
use Rattle.entry_tree.specs.declared.side.Side.{Side}
use Rattle.entry_tree.specs.declared.side.Side.TheVariants.{Alpha, Beta}
use Rattle.frame_text.specs.declared.frame.Frame.{Frame}
use Rattle.frame_text.specs.declared.frame.Frame.TheVariants.{Reset}
use Rattle.mode_rules.specs.declared.phase.Phase.{Phase}
use Rattle.mode_rules.specs.declared.phase.Phase.TheVariants as phase
use Rattle.mode_rules.specs.declared.report.CycleReport.{CycleReport}
use Rattle.mode_rules.specs.declared.report.Outcome.{Outcome}
use Rattle.mode_rules.specs.declared.report.Outcome.TheVariants.{Done, Halted, Stopped, TooMany, Fault, RootFull, KeeperFault, NoMemory}
use Rattle.roots_api.specs.Answers.{IsAnswerTo, is_full}
use Rattle.roots_api.specs.declared.answer.Answer.{Answer}
use Rattle.roots_api.specs.declared.op.Op.{Op}
use Rattle.scan_cache.specs.declared.line.Line.{Line}
use Rattle.scan_core.specs.Scan.{ends_by, learns, state_of, with_told}
use Rattle.scan_core.specs.Told.{Told}
use Rattle.scan_core.specs.declared.scan_end.ScanEnd.{ScanEnd}
use Rattle.scan_core.specs.declared.scan_end.ScanEnd.TheVariants as ends
use Rattle.stage_core.specs.Turns.{stops_by}
use Rattle.cycle_core.specs.Changing.{asked as changing_asked}
use Rattle.cycle_core.specs.Ending.{Memory, broken, ended_early, to_changes, to_clear_beta, to_commit, to_stages}
use Rattle.cycle_core.specs.Looks.{Looking, looks_next, new_looks, scan_on, with_scan}
use Rattle.cycle_core.specs.Planning.{made, planned}
use Rattle.cycle_core.specs.UnderWay.{UnderWay, stages_next, with_asked, with_changed, with_staging}
use Rattle.cycle_core.specs.declared.looks.Looks.{Looks}
use Rattle.cycle_core.specs.declared.request.Taken.{Taken}
use Rattle.cycle_core.specs.declared.request.Taken.TheVariants as taken
use Rattle.cycle_core.specs.declared.spec.Caches.{Caches}
use Rattle.cycle_core.specs.declared.spec.CycleSpec.{CycleSpec}
use Rattle.cycle_core.specs.declared.spec.Setup.{Setup}
use Rattle.cycle_core.specs.declared.stand.Next.{Next}
use Rattle.cycle_core.specs.declared.stand.Next.TheVariants.{Goes, Ends}
use Rattle.cycle_core.specs.declared.stand.Stand.{Stand}
use Rattle.cycle_core.specs.declared.stand.Stand.TheVariants.{Forgets, Scans, Stages, Changes, Clears, Commits}

-- ---- what is asked next

pub data Asked : Type 0 where
  AsksOp : Side → Op → Asked
  KeepsFrame : Frame → Asked

abbrev pub ask : Option (Side × Op) → Option Asked
ask None = None
ask (Some (side, op)) = Some (AsksOp side op)

abbrev pub ask_on : Side → Option Op → Option Asked
ask_on side None = None
ask_on side (Some op) = Some (AsksOp side op)

abbrev pub asked : Stand → Option Asked
asked (Forgets frame) = Some (KeepsFrame frame)
asked (Scans looking) = ask_on looking.side (looks_next looking.side looking.looks)
asked (Stages w) = ask (stages_next w)
asked (Changes w) = ask (changing_asked w.courses)
asked (Clears side op w) = Some (AsksOp side op)
asked (Commits frame report) = Some (KeepsFrame frame)

-- ---- what an answer brings

-- why a scan's end ends the cycle
abbrev pub outcome_of : Side → ScanEnd → Outcome
outcome_of side ends.TooMany = TooMany side
outcome_of side ends.Fault = Fault side
outcome_of side (ends.RootFull room) = RootFull side
outcome_of side ends.Memory = NoMemory

-- the outcome that an answer of staging or changing brings, if any: the root is full, or failed at anything but a Fetch
abbrev pub outcome_by : Side → Op → Answer (List ℕ) → Option Outcome
outcome_by side op answer = if is_full answer then Some (RootFull side) else (if stops_by op answer then Some (Fault side) else None)

-- a refusal of the frame is the outcome only if none came before
abbrev pub unless_other : Outcome → Outcome → Outcome
unless_other Done outcome = outcome
unless_other (Halted halt) outcome = Halted halt
unless_other Stopped outcome = Stopped
unless_other (TooMany side) outcome = TooMany side
unless_other (Fault side) outcome = Fault side
unless_other (RootFull side) outcome = RootFull side
unless_other KeeperFault outcome = KeeperFault
unless_other NoMemory outcome = NoMemory

abbrev pub refused_report : CycleReport → Outcome → CycleReport
refused_report r outcome = record { cycle = r.cycle; outcome = unless_other r.outcome outcome; conflicts = r.conflicts; problems = r.problems }

abbrev pub cache_on : Caches → Side → ByPath Line
cache_on caches Alpha = caches.alpha
cache_on caches Beta = caches.beta

-- the outcome that an answer to what is asked brings
abbrev pub outcome_asked : Option (Side × Op) → Answer (List ℕ) → Option Outcome
outcome_asked None answer = None
outcome_asked (Some (side, op)) answer = outcome_by side op answer

-- the caches with this one for a side
abbrev pub with_cache : Caches → Side → ByPath Line → Caches
with_cache caches Alpha cache = record { alpha = cache; beta = caches.beta }
with_cache caches Beta cache = record { alpha = caches.alpha; beta = cache }

-- why an answer ends the scan in course, if it does
abbrev pub scan_end : Looking → Answer (List ℕ) → Option ScanEnd
scan_end looking answer = ends_by (scan_on looking.looks looking.side).entries (state_of (scan_on looking.looks looking.side)) answer

module _ (setup : Setup) where
  -- what a scan is told: the answer, with the rules and what its side's cache knows
  abbrev pub told_of : ByPath Line → Answer (List ℕ) → Told
  told_of cache answer = record { answer = answer; rules = setup.rules; cache = cache }

  -- beta's scan asks on; or else the plan is made
  abbrev pub scans_beta : Memory → Looks → Next
  scans_beta memory l =
      if is_some (looks_next Beta l) then Goes (Scans (record { side = Beta; looks = l })) else planned setup.tag.run setup.tag.cycle memory (made setup.mode l)

  -- a scan asks on; or else the next one does, alpha's first
  abbrev pub scans_on : Memory → Side → Looks → Next
  scans_on memory Alpha l = if is_some (looks_next Alpha l) then Goes (Scans (record { side = Alpha; looks = l })) else scans_beta memory l
  scans_on memory Beta l = scans_beta memory l

  -- without memory for the next request of a scan, the cycle ends
  abbrev pub after_scan : Memory → Side → Looks → Next
  after_scan memory side l = if memory.scan then scans_on memory side l else ended_early setup.tag.run setup.tag.cycle NoMemory

  -- both scans once the one in course took an answer
  abbrev pub looks_on : ByPath Line → Looking → Answer (List ℕ) → Looks
  looks_on cache looking answer = with_scan looking.looks looking.side (with_told (scan_on looking.looks looking.side) (told_of cache answer))

  abbrev pub scanned_by : Memory → ByPath Line → Looking → Answer (List ℕ) → Option ScanEnd → Next
  scanned_by memory cache looking answer (Some end) = ended_early setup.tag.run setup.tag.cycle (outcome_of looking.side end)
  scanned_by memory cache looking answer None = after_scan memory looking.side (looks_on cache looking answer)

  -- a scan is answered; without memory to write the answer down, the cycle ends
  abbrev pub scanned : Memory → ByPath Line → Looking → Answer (List ℕ) → Next
  scanned memory cache looking answer =
      if memory.take then scanned_by memory cache looking answer (scan_end looking answer) else ended_early setup.tag.run setup.tag.cycle NoMemory

  abbrev pub learnt_by : ByPath Line → Looking → Answer (List ℕ) → Option ScanEnd → ByPath Line
  learnt_by cache looking answer (Some end) = cache
  learnt_by cache looking answer None =
      learns (scan_on looking.looks looking.side).size (state_of (scan_on looking.looks looking.side)) (told_of cache answer)

  -- what the side's cache is then: it learns, if the answer is written down and doesn't end the scan
  abbrev pub learnt : Memory → ByPath Line → Looking → Answer (List ℕ) → ByPath Line
  learnt memory cache looking answer = if memory.take then learnt_by cache looking answer (scan_end looking answer) else cache

  -- for some memory, the scan in course goes on so, with this cache
  abbrev pub ScansTo : ByPath Line → Looking → Answer (List ℕ) → Next → ByPath Line → Type 0
  ScansTo cache looking answer came new = (memory : Memory) × (came ≡ scanned memory cache looking answer) × (new ≡ learnt memory cache looking answer)

  abbrev pub staged_by : Memory → UnderWay → Option Outcome → Next
  staged_by memory w None = to_stages setup.tag.run setup.tag.cycle memory w
  staged_by memory w (Some outcome) = broken setup.tag.run setup.tag.cycle memory w outcome

  -- a staging is answered; without memory to write the answer down, no further file is staged
  abbrev pub staged : Memory → UnderWay → Answer (List ℕ) → Next
  staged memory w answer =
      if memory.take then staged_by memory (with_staging (with_asked w) answer) (outcome_asked (stages_next w) answer)
      else broken setup.tag.run setup.tag.cycle memory (with_asked w) NoMemory

  abbrev pub changed_by : Memory → UnderWay → Option Outcome → Next
  changed_by memory w None = to_changes setup.tag.run setup.tag.cycle memory w
  changed_by memory w (Some outcome) = broken setup.tag.run setup.tag.cycle memory w outcome

  -- a change is answered
  abbrev pub changed : Memory → UnderWay → Answer (List ℕ) → Next
  changed memory w answer = changed_by memory (with_changed w (Some answer)) (outcome_asked (changing_asked w.courses) answer)

  -- a side's staging is taken away, whatever was answered
  abbrev pub cleared : Memory → Side → UnderWay → Next
  cleared memory Alpha w = to_clear_beta setup.tag.run setup.tag.cycle memory w
  cleared memory Beta w = to_commit setup.tag.run setup.tag.cycle memory w

  -- a root's answer
  abbrev pub answered : Memory → Caches → Stand → Answer (List ℕ) → Next
  answered memory caches (Forgets frame) answer = Goes (Forgets frame)
  answered memory caches (Scans looking) answer = scanned memory (cache_on caches looking.side) looking answer
  answered memory caches (Stages w) answer = staged memory w answer
  answered memory caches (Changes w) answer = changed memory w answer
  answered memory caches (Clears side op w) answer = cleared memory side w
  answered memory caches (Commits frame report) answer = Goes (Commits frame report)

  -- the frame is kept
  abbrev pub kept : Stand → Next
  kept (Forgets frame) = Goes (Scans (record { side = Alpha; looks = new_looks setup.entries setup.size map.empty }))
  kept (Scans looking) = Goes (Scans looking)
  kept (Stages w) = Goes (Stages w)
  kept (Changes w) = Goes (Changes w)
  kept (Clears side op w) = Goes (Clears side op w)
  kept (Commits frame report) = Ends report

  -- the frame isn't kept
  abbrev pub refused : Stand → Next
  refused (Forgets frame) = ended_early setup.tag.run setup.tag.cycle KeeperFault
  refused (Scans looking) = Goes (Scans looking)
  refused (Stages w) = Goes (Stages w)
  refused (Changes w) = Goes (Changes w)
  refused (Clears side op w) = Goes (Clears side op w)
  refused (Commits frame report) = Ends (refused_report report KeeperFault)

  -- there was no memory for the request: only an operation of a change is passed over so, with a problem; and what isn't cleared stays
  abbrev pub unasked : Memory → Stand → Next
  unasked memory (Forgets frame) = ended_early setup.tag.run setup.tag.cycle NoMemory
  unasked memory (Scans looking) = ended_early setup.tag.run setup.tag.cycle NoMemory
  unasked memory (Stages w) = broken setup.tag.run setup.tag.cycle memory (with_asked w) NoMemory
  unasked memory (Changes w) = to_changes setup.tag.run setup.tag.cycle memory (with_changed w None)
  unasked memory (Clears side op w) = cleared memory side w
  unasked memory (Commits frame report) = Ends (refused_report report NoMemory)

  -- WHAT IT MAKES OF WHAT IT IS TOLD
  abbrev pub after : Memory → Caches → Stand → Taken → Next
  after memory caches stand (taken.Answered answer) = answered memory caches stand answer
  after memory caches stand taken.Kept = kept stand
  after memory caches stand taken.KeepFailed = refused stand
  after memory caches stand taken.NoMemory = unasked memory stand

  abbrev pub caches_answered : Memory → Caches → Stand → Answer (List ℕ) → Caches
  caches_answered memory caches (Scans looking) answer = with_cache caches looking.side (learnt memory (cache_on caches looking.side) looking answer)
  caches_answered memory caches stand answer = caches

  -- and what its caches are then
  abbrev pub caches_after : Memory → Caches → Stand → Taken → Caches
  caches_after memory caches stand (taken.Answered answer) = caches_answered memory caches stand answer
  caches_after memory caches stand told = caches

  -- for some memory, it goes on so, with these caches
  abbrev pub TurnsTo : Caches → Stand → Taken → Next → Caches → Type 0
  TurnsTo caches stand told came new = (memory : Memory) × (came ≡ after memory caches stand told) × (new ≡ caches_after memory caches stand told)

  -- WHAT IT MAKES OF A STOP: it ends before its plan stands, and else goes on with clear; in clear and commit it goes on
  abbrev pub stopped : Memory → Stand → Next
  stopped memory (Forgets frame) = ended_early setup.tag.run setup.tag.cycle Stopped
  stopped memory (Scans looking) = ended_early setup.tag.run setup.tag.cycle Stopped
  stopped memory (Stages w) = broken setup.tag.run setup.tag.cycle memory w Stopped
  stopped memory (Changes w) = broken setup.tag.run setup.tag.cycle memory w Stopped
  stopped memory (Clears side op w) = Goes (Clears side op w)
  stopped memory (Commits frame report) = Goes (Commits frame report)

-- what a cycle keeps of what it is made of
abbrev pub setup_of : CycleSpec → Setup
setup_of spec = record { mode = spec.mode; rules = spec.rules; entries = spec.entries; size = spec.size; tag = record { run = spec.run; cycle = spec.cycle } }

-- what it begins with: a reset that is owed is kept first
abbrev pub begun_by : ℕ → ℕ → ByPath Atom → Option ℕ → Stand
begun_by entries size ancestor None = Scans (record { side = Alpha; looks = new_looks entries size ancestor })
begun_by entries size ancestor (Some number) = Forgets (Reset number)

abbrev pub begun : CycleSpec → Stand
begun spec = begun_by spec.entries spec.size spec.ancestor spec.forget

-- ---- its phase, and what it may be told

-- the side's scan
abbrev pub scan_phase : Side → Phase
scan_phase Alpha = phase.ScanAlpha
scan_phase Beta = phase.ScanBeta

abbrev pub phase_of : Stand → Phase
phase_of (Forgets frame) = phase.Forget
phase_of (Scans looking) = scan_phase looking.side
phase_of (Stages w) = phase.Stage
phase_of (Changes w) = phase.Change
phase_of (Clears side op w) = phase.Clear
phase_of (Commits frame report) = phase.Commit

-- an answer is told to an operation alone, by its row; a frame is kept or not
abbrev pub MayBeToldOf : Option Asked → Taken → Type 0
MayBeToldOf (Some (AsksOp side op)) (taken.Answered answer) = IsAnswerTo op answer
MayBeToldOf (Some (KeepsFrame frame)) taken.Kept = Unit {0}
MayBeToldOf (Some (KeepsFrame frame)) taken.KeepFailed = Unit {0}
MayBeToldOf asked taken.NoMemory = Unit {0}
MayBeToldOf asked told = ⊥

abbrev pub MayBeTold : Stand → Taken → Type 0
MayBeTold stand told = MayBeToldOf (asked stand) told
