-- Calls of a journal, and what they acknowledge.
use Rattle.std.specs.Prelude.{◌≡◌, ◌⊎◌, ℕ, List, [], ◌∷◌, ◌++◌, map, Result, Ok, Err, Option, Some, None}
use Rattle.disk_model.specs.Content.{Content}
use Rattle.disk_model.specs.Disk.{OnTold}
use Rattle.disk_model.specs.Moments.{LeavesSince, LeftSince}
use Rattle.frame_journal.specs.JournalState.{JournalState, MayOpenWith, LeavesJournal}
use Rattle.frame_journal.specs.declared.error.AppendError.{AppendError}
use Rattle.frame_journal.specs.declared.error.AppendError.TheVariants as appending
use Rattle.frame_journal.specs.declared.error.OpenError.{OpenError}

-- a call, with what it was answered
pub data Call : Type 0 where
  -- an append that is acknowledged, and one that was refused with a device fault
  Appended : List ℕ → Call
  AppendFailed : List ℕ → Call
  Reopened : Call
  -- an opening that was refused, for whatever reason
  ReopenFailed : Call
  -- a call that was refused because the journal is closed, or for want of memory
  Refused : Call

abbrev pub append_call : List ℕ → Result (Unit {0}) AppendError → Call
append_call payload (Ok done) = Appended payload
append_call payload (Err appending.DiskFault) = AppendFailed payload
append_call payload (Err appending.Closed) = Refused
append_call payload (Err appending.Memory) = Refused

abbrev pub reopen_call : Result (Unit {0}) OpenError → Call
reopen_call (Ok done) = Reopened
reopen_call (Err error) = ReopenFailed

-- what is acknowledged, and what may stand in its place
pub record Kept : Type 0 where
  pub payloads : List (List ℕ)
  pub pending : Option (List (List ℕ))

abbrev pub kept_of : {D : Type 0} → JournalState D → Kept
kept_of journal = record { payloads = journal.payloads; pending = journal.pending }

abbrev pub kept_after : Kept → Call → Kept
kept_after kept (Appended payload) = record { payloads = kept.payloads ++ payload ∷ []; pending = None }
kept_after kept (AppendFailed payload) = record { payloads = kept.payloads; pending = Some (kept.payloads ++ payload ∷ []) }
kept_after kept Reopened = record { payloads = kept.payloads; pending = None }
kept_after kept ReopenFailed = kept
kept_after kept Refused = kept

-- what a crash within the call may find in place of the frames that were acknowledged before it
abbrev pub in_course : Kept → Call → Option (List (List ℕ))
in_course kept (Appended payload) = Some (kept.payloads ++ payload ∷ [])
in_course kept (AppendFailed payload) = Some (kept.payloads ++ payload ∷ [])
in_course kept Reopened = kept.pending
in_course kept ReopenFailed = kept.pending
in_course kept Refused = kept.pending

-- one call of a journal over disks with this history
pub record IsStep {D : Type 0} (history : D → List Content) (old : JournalState D) (call : Call) (new : JournalState D) : Type 0 where
  -- what it acknowledges, where the disk tells what it holds
  pub kept : OnTold (history old.disk) (λ _. kept_of new ≡ kept_after (kept_of old) call)
  -- what a crash may leave at each moment of it
  pub moments : LeavesSince (history old.disk) (history new.disk) (MayOpenWith old.payloads (in_course (kept_of old) call))
  -- and behind it
  pub durable : OnTold (history new.disk) (LeavesJournal new)

-- calls, each with the journal that it leaves, the first one first
abbrev pub Run : Type 0 → Type 0
Run D = List (Call × JournalState D)

abbrev pub AreSteps : {D : Type 0} → (D → List Content) → JournalState D → Run D → Type 0
AreSteps history old [] = Unit {0}
AreSteps history old (step ∷ run) = IsStep history old step.0 step.1 × AreSteps history step.1 run

-- the journal behind a run
abbrev pub last : {D : Type 0} → JournalState D → Run D → JournalState D
last old [] = old
last old (step ∷ run) = last step.1 run

-- what is acknowledged behind calls
abbrev pub kept_behind : Kept → List Call → Kept
kept_behind kept [] = kept
kept_behind kept (call ∷ calls) = kept_behind (kept_after kept call) calls

abbrev pub calls_of : {D : Type 0} → Run D → List Call
calls_of run = map (λ step. step.0) run

-- a crash at a moment of the run, or behind it, may leave this image
abbrev pub LeftIn : {D : Type 0} → (D → List Content) → JournalState D → Run D → List ℕ → Type 0
LeftIn history old [] image = LeftSince (history old.disk) (history old.disk) image
LeftIn history old (step ∷ run) image = LeftSince (history old.disk) (history step.1.disk) image ⊎ LeftIn history step.1 run image

-- a disk tells what it holds
abbrev pub Tells : List Content → Type 0
Tells [] = ⊥
Tells (now ∷ past) = Unit {0}
