-- Calls of a journal on two disks, and what they acknowledge.
use Rattle.std.specs.Prelude.{◌≡◌, ℕ, List, [], ◌∷◌, map, Result, Ok, Err, Option, Some, None}
use Rattle.disk_model.specs.Content.{Content}
use Rattle.disk_model.specs.Disk.{OnTold}
use Rattle.disk_model.specs.Moments.{LeavesBothSince}
use Rattle.frame_journal.specs.Calls.{Call, Refused, Kept, kept_after, in_course}
use Rattle.frame_journal.specs.PairState.{PairState, MayOpenPairWith, LeavesPair}
use Rattle.frame_journal.specs.declared.error.AppendError.{AppendError}
use Rattle.frame_journal.specs.declared.error.AppendError.TheVariants as appending

-- a call, with what it was answered
pub data PairCall : Type 0 where
  -- an append or an opening, as on one disk
  Called : Call → PairCall
  -- a checkpoint of these payloads that is acknowledged, and one that was refused with a device fault
  Checkpointed : List (List ℕ) → PairCall
  CheckpointFailed : List (List ℕ) → PairCall

abbrev pub checkpoint_call : List (List ℕ) → Result (Unit {0}) AppendError → PairCall
checkpoint_call payloads (Ok done) = Checkpointed payloads
checkpoint_call payloads (Err appending.DiskFault) = CheckpointFailed payloads
checkpoint_call payloads (Err appending.Closed) = Called Refused
checkpoint_call payloads (Err appending.Memory) = Called Refused

abbrev pub kept_of_pair : {D : Type 0} → PairState D → Kept
kept_of_pair journal = record { payloads = journal.payloads; pending = journal.pending }

abbrev pub kept_after_pair : Kept → PairCall → Kept
kept_after_pair kept (Called call) = kept_after kept call
kept_after_pair kept (Checkpointed payloads) = record { payloads = payloads; pending = None }
kept_after_pair kept (CheckpointFailed payloads) = record { payloads = kept.payloads; pending = Some payloads }

-- what a crash within the call may find in place of the payloads that were acknowledged before it
abbrev pub pair_in_course : Kept → PairCall → Option (List (List ℕ))
pair_in_course kept (Called call) = in_course kept call
pair_in_course kept (Checkpointed payloads) = Some payloads
pair_in_course kept (CheckpointFailed payloads) = Some payloads

-- one call of a journal over pairs of disks with this history
pub record IsPairStep {D : Type 0} (history : D → List Content) (old : PairState D) (call : PairCall) (new : PairState D) : Type 0 where
  -- what it acknowledges, where both disks tell what they hold
  pub kept : OnTold (history old.first) (λ _. OnTold (history old.second) (λ _. kept_of_pair new ≡ kept_after_pair (kept_of_pair old) call))
  -- what a crash may leave at each moment of it
  pub moments : LeavesBothSince (history old.first) (history new.first) (history old.second) (history new.second) (MayOpenPairWith old.payloads (pair_in_course (kept_of_pair old) call))
  -- and behind it
  pub durable : OnTold (history new.first) (λ first. OnTold (history new.second) (λ second. LeavesPair new first second))

-- calls, each with the journal that it leaves, the first one first
abbrev pub PairRun : Type 0 → Type 0
PairRun D = List (PairCall × PairState D)

abbrev pub ArePairSteps : {D : Type 0} → (D → List Content) → PairState D → PairRun D → Type 0
ArePairSteps history old [] = Unit {0}
ArePairSteps history old (step ∷ run) = IsPairStep history old step.0 step.1 × ArePairSteps history step.1 run

-- the journal behind a run
abbrev pub last_pair : {D : Type 0} → PairState D → PairRun D → PairState D
last_pair old [] = old
last_pair old (step ∷ run) = last_pair step.1 run

-- what is acknowledged behind calls
abbrev pub kept_behind_pair : Kept → List PairCall → Kept
kept_behind_pair kept [] = kept
kept_behind_pair kept (call ∷ calls) = kept_behind_pair (kept_after_pair kept call) calls

abbrev pub pair_calls_of : {D : Type 0} → PairRun D → List PairCall
pair_calls_of run = map (λ step. step.0) run
