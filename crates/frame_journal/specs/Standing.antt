-- How a journal stands with its disk.
use Rattle.std.specs.Prelude.{ℕ, ◌+◌, ◌^◌, ◌<◌, Bool, true, false, List, [], ◌∷◌, ◌++◌, Option, Some, None, Vec}
use Rattle.std.specs.declared.alloc.Global.{Global}
use Rattle.disk_model.specs.Content.{Content, LeavesOnly}
use Rattle.disk_model.specs.Disk.{OnTold}
use Rattle.frame_journal.specs.Layout.{OpensWith, IsStaged}
use Rattle.frame_journal.specs.Resting.{IsResting}
use Rattle.frame_journal.specs.declared.commit.CommitFault.{CommitFault}
use Rattle.frame_journal.specs.declared.commit.CommitFault.TheVariants.{AtBlock, AtGate}
use Rattle.frame_journal.specs.declared.standing.Standing.{Standing}
use Rattle.frame_journal.specs.declared.standing.Standing.TheVariants as standing

abbrev pub is_closed : Standing → Bool
is_closed standing.Open = false
is_closed standing.Closed = true
is_closed (standing.Refused payload) = true
is_closed (standing.Staged payload) = true

-- what a crash may find in place of the acknowledged frames
abbrev pub pending_of : Standing → List (List ℕ) → Option (List (List ℕ))
pending_of standing.Open payloads = None
pending_of standing.Closed payloads = None
pending_of (standing.Refused payload) payloads = Some (payloads ++ payload.items ∷ [])
pending_of (standing.Staged payload) payloads = Some (payloads ++ payload.items ∷ [])

-- a disk that tells this content is as the journal takes it to be
abbrev pub Stands : Standing → List (List ℕ) → ℕ → Content → Type 0
Stands standing.Open payloads gate now = IsResting payloads gate now
Stands standing.Closed payloads gate now = LeavesOnly now (OpensWith payloads)
Stands (standing.Refused payload) payloads gate now = LeavesOnly now (OpensWith payloads)
Stands (standing.Staged payload) payloads gate now = LeavesOnly now (IsStaged payloads payload.items gate)

-- the gate's place has room behind it, and the disk is as the journal takes it to be
pub record IsSound (history : List Content) (payloads : List (List ℕ)) (gate : ℕ) (stands : Standing) : Type 0 where
  pub within : gate + 1 < 2 ^ 63
  pub disk : OnTold history (λ now. Stands stands payloads gate now)

-- the refused frame stands whole behind its gate, which may be open
abbrev pub MayBeOpen : Standing → Type 0
MayBeOpen standing.Open = ⊥
MayBeOpen standing.Closed = ⊥
MayBeOpen (standing.Refused payload) = ⊥
MayBeOpen (standing.Staged payload) = Unit {0}

-- the refused frame's gate was shut again
abbrev pub after_shutting : Standing → Standing
after_shutting standing.Open = standing.Open
after_shutting standing.Closed = standing.Closed
after_shutting (standing.Refused payload) = standing.Refused payload
after_shutting (standing.Staged payload) = standing.Refused payload

-- a device fault came at opening again
abbrev pub after_fault : Standing → Standing
after_fault standing.Open = standing.Closed
after_fault standing.Closed = standing.Closed
after_fault (standing.Refused payload) = standing.Refused payload
after_fault (standing.Staged payload) = standing.Staged payload

-- a device fault came in an append
abbrev pub refused_at : CommitFault → Vec ℕ Global → Standing
refused_at AtBlock payload = standing.Refused payload
refused_at AtGate payload = standing.Staged payload
