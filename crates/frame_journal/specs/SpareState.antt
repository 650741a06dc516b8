-- How a journal on two disks stands with the disk that it doesn't go on with, its spare one.
use Rattle.std.specs.Prelude.{◌≡◌, ◌⊎◌, ℕ, ◌+◌, ◌<◌, Bool, ◌||◌, cond, is_some, List, [], length, Option, Some, None, Vec}
use Rattle.std.specs.declared.alloc.Global.{Global}
use Rattle.disk_model.specs.Content.{Content, LeavesOnly}
use Rattle.disk_model.specs.Disk.{OnTold}
use Rattle.frame_journal.specs.Layout.{ArePayloads, OpensWith}
use Rattle.frame_journal.specs.Reading.{payloads_of, BeginsShut}
use Rattle.frame_journal.specs.Generation.{generation_of, without_generation}
use Rattle.frame_journal.specs.JournalState.{JournalState, LeavesJournal}
use Rattle.frame_journal.specs.Older.{StandsBehind, OpensLesser, IsOlder, behind_first}
use Rattle.frame_journal.specs.PairState.{PairState, LosesTo}
use Rattle.frame_journal.specs.declared.checkpoint.CheckpointFault.{CheckpointFault}
use Rattle.frame_journal.specs.declared.checkpoint.CheckpointFault.TheVariants.{AtShutting, AtBody, AtOpening}
use Rattle.frame_journal.specs.declared.spare.Spare.{Spare}
use Rattle.frame_journal.specs.declared.spare.Spare.TheVariants as spare

-- the spare disk holds this, and its first gate may be any byte
abbrev pub StandsSpare : Spare → (ℕ → Type 0) → Content → Type 0
StandsSpare spare.Idle loses now = LeavesOnly now (IsOlder loses)
StandsSpare (spare.Untouched payloads) loses now = LeavesOnly now (IsOlder loses)
StandsSpare (spare.Shut payloads) loses now = LeavesOnly now BeginsShut
StandsSpare (spare.Staged payloads) loses now = LeavesOnly now (StandsBehind [] (behind_first (payloads_of payloads.items)))

-- the frames of a checkpoint that was refused
abbrev pub refused_frames : Spare → Option (List (List ℕ))
refused_frames spare.Idle = None
refused_frames (spare.Untouched payloads) = Some (payloads_of payloads.items)
refused_frames (spare.Shut payloads) = Some (payloads_of payloads.items)
refused_frames (spare.Staged payloads) = Some (payloads_of payloads.items)

abbrev pub is_refused : Spare → Bool
is_refused standing = is_some (refused_frames standing)

-- a device fault came in a checkpoint of these frames
abbrev pub refused_at_step : CheckpointFault → Vec (Vec ℕ Global) Global → Spare
refused_at_step AtShutting payloads = spare.Untouched payloads
refused_at_step AtBody payloads = spare.Shut payloads
refused_at_step AtOpening payloads = spare.Staged payloads

-- the spare disk's first gate was shut again
abbrev pub after_shutting_spare : Spare → Spare
after_shutting_spare spare.Idle = spare.Idle
after_shutting_spare (spare.Untouched payloads) = spare.Untouched payloads
after_shutting_spare (spare.Shut payloads) = spare.Shut payloads
after_shutting_spare (spare.Staged payloads) = spare.Shut payloads

-- and what stood behind that gate was cut away
abbrev pub after_cutting_spare : Spare → Spare
after_cutting_spare spare.Idle = spare.Idle
after_cutting_spare (spare.Untouched payloads) = spare.Untouched payloads
after_cutting_spare (spare.Shut payloads) = spare.Untouched payloads
after_cutting_spare (spare.Staged payloads) = spare.Staged payloads

-- a spare disk's frames may count, since their gate may be open
abbrev pub MayCount : Spare → Type 0
MayCount spare.Idle = ⊥
MayCount (spare.Untouched payloads) = ⊥
MayCount (spare.Shut payloads) = ⊥
MayCount (spare.Staged payloads) = Unit {0}

-- something stands behind a shut gate, and is to be cut away
abbrev pub IsUncut : Spare → Type 0
IsUncut spare.Idle = ⊥
IsUncut (spare.Untouched payloads) = ⊥
IsUncut (spare.Shut payloads) = Unit {0}
IsUncut (spare.Staged payloads) = ⊥

-- what a crash may find on the spare disk: frames that lose, or those of the checkpoint that was refused
abbrev pub MayOpenSpare : Option (List (List ℕ)) → (ℕ → Type 0) → List ℕ → Type 0
MayOpenSpare None loses file = OpensLesser loses file
MayOpenSpare (Some other) loses file = OpensLesser loses file ⊎ OpensWith other file

-- what each refused checkpoint has: a generation of this number, in frames that a file can hold
abbrev pub IsRaised : Option (List (List ℕ)) → ℕ → Type 0
IsRaised None generation = Unit {0}
IsRaised (Some other) generation = (generation_of other ≡ generation) × ArePayloads other × (0 < length other)

-- what is pending has the generation of what is acknowledged
abbrev pub KeepsGeneration : Option (List (List ℕ)) → ℕ → Type 0
KeepsGeneration None generation = Unit {0}
KeepsGeneration (Some other) generation = generation_of other ≡ generation

-- a checkpoint that was refused is all that is pending
abbrev pub StandsAlone : Option (List (List ℕ)) → Option (List (List ℕ)) → Type 0
StandsAlone None pending = Unit {0}
StandsAlone (Some other) pending = pending ≡ None

-- How the spare disk stands with a journal of these payloads, of which these are pending on the disk gone on with.
pub record SpareStand (payloads : List (List ℕ)) (pending : Option (List (List ℕ))) (on_second : Bool) (standing : Spare) (now : Content) : Type 0 where
  pub spare : StandsSpare standing (LosesTo on_second (generation_of payloads)) now
  -- a disk with no frames loses
  pub least : LosesTo on_second (generation_of payloads) 0
  pub raised : IsRaised (refused_frames standing) (generation_of payloads + 1)
  pub kept : KeepsGeneration pending (generation_of payloads)

pub record IsPairSound {D : Type 0} (history : D → List Content) (journal : JournalState D) (spare : D) (on_second : Bool) (standing : Spare) : Type 0 where
  pub alone : StandsAlone (refused_frames standing) journal.pending
  -- what a crash may leave of the disk gone on with
  pub leaves : OnTold (history journal.disk) (LeavesJournal journal)
  -- and how the spare one stands, where both tell what they hold
  pub stand : OnTold (history journal.disk) (λ _. OnTold (history spare) (SpareStand journal.payloads journal.pending on_second standing))

-- what is pending, without a generation
abbrev pub pending_without : Option (List (List ℕ)) → Option (List (List ℕ))
pending_without None = None
pending_without (Some other) = Some (without_generation other)

-- the same of both disks: the frames of a refused checkpoint, or what is pending on the disk gone on with
abbrev pub pending_with : Option (List (List ℕ)) → Option (List (List ℕ)) → Option (List (List ℕ))
pending_with None pending = pending_without pending
pending_with (Some other) pending = Some (without_generation other)

-- the journal on two disks, from the one that goes on, the spare disk and how that stands
abbrev pub pair_of : {D : Type 0} → JournalState D → D → Bool → Spare → PairState D
pair_of journal spare on_second standing = record {
  first = cond on_second spare journal.disk;
  second = cond on_second journal.disk spare;
  on_second = on_second;
  generation = generation_of journal.payloads;
  payloads = without_generation journal.payloads;
  closed = is_refused standing || journal.closed;
  pending = pending_with (refused_frames standing) journal.pending;
}
