-- What a journal is seen as, and what a crash may leave of it.
use Rattle.std.specs.Prelude.{◌⊎◌, ℕ, Bool, List, Option, Some, None}
use Rattle.disk_model.specs.Content.{Content, LeavesOnly}
use Rattle.frame_journal.specs.Layout.{OpensWith}

pub record JournalState (D : Type 0) : Type 0 where
  pub disk : D
  -- the acknowledged frames, in order
  pub payloads : List (List ℕ)
  -- whether a device fault came since it was opened last
  pub closed : Bool
  -- what a crash may find in place of the acknowledged frames, since a call was refused with a device fault
  pub pending : Option (List (List ℕ))

-- a file opens with the acknowledged frames, or with what is pending
abbrev pub MayOpenWith : List (List ℕ) → Option (List (List ℕ)) → List ℕ → Type 0
MayOpenWith payloads None file = OpensWith payloads file
MayOpenWith payloads (Some other) file = OpensWith payloads file ⊎ OpensWith other file

-- what a crash at this moment may leave of a journal on a disk that tells this content
abbrev pub LeavesJournal : {D : Type 0} → JournalState D → Content → Type 0
LeavesJournal journal now = LeavesOnly now (MayOpenWith journal.payloads journal.pending)
