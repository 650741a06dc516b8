-- Small cycles with their reports, as examples of which are right.
use Rattle.std.specs.Prelude.{◌≡◌, ℕ, Bool, true, false, List, [], ◌∷◌, ◌++◌, codes, Some, None}
use Rattle.entry_tree.specs.Tree.{Names}
use Rattle.entry_tree.specs.declared.entry.Entry.{Entry}
use Rattle.entry_tree.specs.declared.entry.Entry.TheVariants as entry
use Rattle.entry_tree.specs.declared.side.Side.{Side}
use Rattle.entry_tree.specs.declared.side.Side.TheVariants.{Alpha, Beta}
use Rattle.frame_text.specs.declared.payload.Payload.{Payload}
use Rattle.mode_rules.specs.declared.halt.Halt.TheVariants.{RootDeleted}
use Rattle.mode_rules.specs.declared.problem.Cause.{Cause}
use Rattle.mode_rules.specs.declared.problem.Cause.TheVariants as cause
use Rattle.mode_rules.specs.declared.problem.Problem.{Problem}
use Rattle.mode_rules.specs.declared.report.CycleReport.{CycleReport}
use Rattle.mode_rules.specs.declared.report.Outcome.{Outcome}
use Rattle.mode_rules.specs.declared.report.Outcome.TheVariants as outcome
use Rattle.roots_api.specs.declared.answer.Answer.TheVariants.{Listed, Held, Changed, Cleared, Opened, Differs, Failed}
use Rattle.roots_api.specs.declared.op.Op.TheVariants.{List as OpList, Fetch, StageClear, StageOpen, MakeDir, Remove}
use Rattle.cycle_law.specs.Cycles.{Cycle, SideLog}
use Rattle.cycle_law.specs.Plans.{ground_of}
use Rattle.cycle_law.specs.Reports.{is_right}
use Rattle.cycle_law.specs.Unlogged.{Unheard, Unlogged}
use Rattle.cycle_law.specs.Worked.{a, both_lines, by_cycle, cycle, fetched, file_row, first_frame, lists, log, places, safe, stages, stamp}

abbrev pub calm : Unheard
calm = record { full = []; starved = []; faults_rose = false; full_rose = false }

-- nothing happened that no log shows, but that the count of beta's faults may have risen
abbrev pub with_rise : Bool → Unlogged
with_rise rose = record { stopped = false; planned = true; short = false; append_failed = false; keeper_rose = false; alpha = calm; beta = record { full = []; starved = []; faults_rose = rose; full_rose = false } }

abbrev pub problem : Side → Names → Cause → Problem
problem side path why = record { side = side; path = path; cause = why }

abbrev pub report : ℕ → Outcome → List Problem → CycleReport
report number end problems = record { cycle = number; outcome = end; conflicts = []; problems = problems }

-- whether a report of a cycle is right, with these logs and frames
abbrev pub told : SideLog → SideLog → List Payload → Cycle → Bool → CycleReport → Bool
told alpha beta frames c rose r = is_right safe (ground_of (record { alpha = alpha; beta = beta; frames = frames }) c) c (with_rise rose) r

-- ---- A removal is refused: `a` was deleted on beta, and on alpha it is written anew between the scan and the removal.
abbrev pub refused : CycleReport → Bool
refused r =
    told (log (lists 2 file_row ∷ by_cycle 2 (Remove a (entry.File (stamp 0) false)) (Differs (Some (entry.File (stamp 2) false))) ∷ [])) (log (lists 2 [] ∷ []))
    (first_frame both_lines ∷ []) (cycle 2 1 0 0) false r

-- Its problem is told. A report that leaves it out isn't right, nor one that gives it another cause, to the other side, or twice.
abbrev pub RefusedIsTold : Type 0
RefusedIsTold =
    (refused (report 2 outcome.Done (problem Alpha a cause.Differs ∷ [])) ≡ true)
    × (refused (report 2 outcome.Done []) ≡ false)
    × (refused (report 2 outcome.Done (problem Alpha a cause.NotEmpty ∷ [])) ≡ false)
    × (refused (report 2 outcome.Done (problem Beta a cause.Differs ∷ [])) ≡ false)
    × (refused (report 2 outcome.Done (problem Alpha a cause.Differs ∷ problem Alpha a cause.Differs ∷ [])) ≡ false)

-- ---- A folder was made meanwhile: alpha has the folders `d/e/f`, beta has nothing, and `d` is made there by somebody else before the cycle makes it.
abbrev pub d : Names
d = codes "d" ∷ []

abbrev pub e : Names
e = codes "d" ∷ codes "e" ∷ []

abbrev pub f : Names
f = codes "d" ∷ codes "e" ∷ codes "f" ∷ []

abbrev pub folder_row : List ℕ → List (List ℕ × Entry)
folder_row name = (name, entry.Dir) ∷ []

abbrev pub meanwhile : CycleReport → Bool
meanwhile r =
    told (log (lists 1 (folder_row (codes "d")) ∷ by_cycle 1 (OpList d) (Listed (folder_row (codes "e"))) ∷ by_cycle 1 (OpList e) (Listed (folder_row (codes "f"))) ∷ by_cycle 1 (OpList f) (Listed []) ∷ []))
    (log (lists 1 [] ∷ by_cycle 1 (MakeDir d) (Differs (Some entry.Dir)) ∷ [])) [] (cycle 1 0 0 0) false r

-- What rests on the folder is skipped for it. It isn't right to skip it for the folder between, or to leave one out.
abbrev pub SkippedIsTold : Type 0
SkippedIsTold =
    (meanwhile (report 1 outcome.Done (problem Beta d cause.Differs ∷ problem Beta e (cause.Skipped d) ∷ problem Beta f (cause.Skipped d) ∷ [])) ≡ true)
    × (meanwhile (report 1 outcome.Done (problem Beta d cause.Differs ∷ problem Beta e (cause.Skipped d) ∷ problem Beta f (cause.Skipped e) ∷ [])) ≡ false)
    × (meanwhile (report 1 outcome.Done (problem Beta d cause.Differs ∷ problem Beta f (cause.Skipped d) ∷ [])) ≡ false)

-- ---- A file changes while it is staged: on alpha it is written anew between the scan and the Fetch for beta.
abbrev pub unstaged : CycleReport → Bool
unstaged r =
    told (log (lists 1 file_row ∷ fetched 1 ∷ by_cycle 1 (Fetch a (stamp 0) 0) (Changed (Some (entry.File (stamp 1) false))) ∷ []))
    (log (lists 1 [] ∷ by_cycle 1 StageClear Cleared ∷ by_cycle 1 StageOpen Opened ∷ by_cycle 1 StageClear Cleared ∷ [])) [] (cycle 1 0 1 0) false r

-- The problem is of the side that needs the file, and stands for its Place. It isn't right to give it to the other side, to leave it out, or to tell the
-- Place too.
abbrev pub UnstagedIsTold : Type 0
UnstagedIsTold =
    (unstaged (report 1 outcome.Done (problem Beta a cause.Changed ∷ [])) ≡ true)
    × (unstaged (report 1 outcome.Done (problem Alpha a cause.Changed ∷ [])) ≡ false)
    × (unstaged (report 1 outcome.Done []) ≡ false)
    × (unstaged (report 1 outcome.Done (problem Beta a cause.Changed ∷ problem Beta a cause.NotStaged ∷ [])) ≡ false)

-- ---- Alpha's root was deleted.
abbrev pub deleted : CycleReport → Bool
deleted r = told (log (by_cycle 2 (OpList []) (Held None) ∷ [])) (log (lists 2 file_row ∷ fetched 2 ∷ [])) (first_frame both_lines ∷ []) (cycle 2 1 0 1) false r

-- The halt is told. `done` isn't right, nor a halt for another reason, though want of memory always may be.
abbrev pub HaltIsTold : Type 0
HaltIsTold =
    (deleted (report 2 (outcome.Halted RootDeleted) []) ≡ true)
    × (deleted (report 2 outcome.Done []) ≡ false)
    × (deleted (report 2 outcome.Stopped []) ≡ false)
    × (deleted (report 2 outcome.NoMemory []) ≡ true)

-- ---- Beta's root failed as the file was placed.
abbrev pub failing : Bool → CycleReport → Bool
failing rose r =
    told (log (lists 1 file_row ∷ fetched 1 ∷ fetched 1 ∷ [])) (log ((lists 1 [] ∷ stages (100 ∷ [])) ++ (places (100 ∷ []) Failed ∷ []))) [] (cycle 1 0 1 0) rose r

-- It is told as a fault only where the count of beta's faults rose, and never of alpha, or as `done`.
abbrev pub FaultIsCounted : Type 0
FaultIsCounted =
    (failing true (report 1 (outcome.Fault Beta) []) ≡ true)
    × (failing false (report 1 (outcome.Fault Beta) []) ≡ false)
    × (failing true (report 1 (outcome.Fault Alpha) []) ≡ false)
    × (failing true (report 1 outcome.Done []) ≡ false)
