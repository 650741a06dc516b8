-- What the two device calls of a step do to a disk's contents.
use Rattle.std.specs.Prelude.{◌≡◌, ℕ, ◌+◌, List, [], ◌∷◌, ◌++◌, length, take, Result, Ok, Err}
use Rattle.disk_model.specs.Content.{Content, LeavesOnly, written_over, settled, changed, write_change, cut_change}
use Rattle.disk_model.specs.Disk.{OnTold, Syncs}
use Rattle.disk_model.specs.Moments.{GoesOn}
use Rattle.frame_journal.specs.Layout.{OpensWith, IsBadFrame, IsStaged}
use Rattle.frame_journal.specs.Resting.{IsResting}
use Rattle.frame_journal.specs.declared.commit.CommitFault.{CommitFault}
use Rattle.frame_journal.specs.declared.commit.CommitFault.TheVariants.{AtBlock, AtGate}

-- a disk has what it had before and maybe more, and tells as before
pub record TellsOn (old new : List Content) : Type 0 where
  pub goes_on : GoesOn old new
  pub silent : old ≡ [] → new ≡ []

-- the frame of this number is bad, and the disk holds the same bytes, all of them made sure of
pub record StaysBad (n : ℕ) (old new : List Content) : Type 0 where
  pub bad : OnTold old (λ now. IsBadFrame n now.bytes)
  pub stays : Syncs old new

-- a write, and a sync behind it
abbrev pub WritesSynced : ℕ → List ℕ → List Content → List Content → Type 0
WritesSynced place bytes [] new = new ≡ []
WritesSynced place bytes (now ∷ past) new =
    new ≡ settled (written_over now.bytes place bytes) ∷ changed now (write_change place (length bytes) now) (written_over now.bytes place bytes) ∷ now ∷ past

-- a cut, and a sync behind it
abbrev pub CutsSynced : ℕ → List Content → List Content → Type 0
CutsSynced n [] new = new ≡ []
CutsSynced n (now ∷ past) new = new ≡ settled (take n now.bytes) ∷ changed now (cut_change n now) (take n now.bytes) ∷ now ∷ past

-- what stands behind an append, by its outcome
abbrev pub CommitLeaves : Result (Unit {0}) CommitFault → List (List ℕ) → List ℕ → ℕ → Content → Type 0
CommitLeaves (Ok done) payloads payload gate now = IsResting (payloads ++ payload ∷ []) (gate + (9 + length payload)) now
CommitLeaves (Err AtBlock) payloads payload gate now = LeavesOnly now (OpensWith payloads)
CommitLeaves (Err AtGate) payloads payload gate now = LeavesOnly now (IsStaged payloads payload gate)
