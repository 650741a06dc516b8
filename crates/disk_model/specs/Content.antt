-- What a disk holds at a moment, and what a crash at that moment may leave of it.
use Rattle.std.specs.Prelude.{◌≡◌, ◌⊎◌, ℕ, ◌+◌, ◌-◌, ◌≤◌, max, min, List, [], ◌∷◌, ◌++◌, length, take, drop, replicate}

-- A write or a cut that no sync has made sure of yet. A write reaches from one place to another, and the part between
-- the old end and the place that was asked for belongs to it. A cut names the length that it leaves at most.
pub data Change : Type 0 where
  Written : ℕ → ℕ → Change
  Cut : ℕ → Change

-- what a disk holds at a moment
pub record Content : Type 0 where
  -- what reads give
  pub bytes : List ℕ
  -- what reads gave at the last sync that succeeded
  pub synced : List ℕ
  -- the writes and cuts since then, the newest first
  pub unsynced : List Change

-- What a crash makes of bytes behind which a write from `from` to `upto` stands: any bytes between the two, and of
-- what reaches past the end any part.
pub record TornWrite (from upto : ℕ) (old new : List ℕ) : Type 0 where
  pub before : take from new ≡ take from old
  pub behind : drop upto new ≡ drop upto old
  pub no_shorter : length old ≤ length new
  pub no_longer : length new ≤ max (length old) upto

-- what a crash makes of a cut to `n` bytes: what it took away may be there in part
pub record TornCut (n : ℕ) (old new : List ℕ) : Type 0 where
  pub front : take (length new) old ≡ new
  pub no_shorter : min n (length old) ≤ length new

-- what a crash makes of one change
abbrev pub Tears : Change → List ℕ → List ℕ → Type 0
Tears (Written from upto) old new = TornWrite from upto old new
Tears (Cut n) old new = TornCut n old new

-- what a crash may leave of synced bytes and the changes since, the newest first: each change torn, in order
abbrev pub LeftOf : List ℕ → List Change → List ℕ → Type 0
LeftOf synced [] image = image ≡ synced
LeftOf synced (change ∷ older) image = (before : List ℕ) × LeftOf synced older before × Tears change before image

-- what a crash may leave of a content where it tears the changes that no sync has made sure of
abbrev pub MayTearTo : Content → List ℕ → Type 0
MayTearTo now image = LeftOf now.synced now.unsynced image

-- what a crash may leave of a content: what reads give is among it
abbrev pub MayLeave : Content → List ℕ → Type 0
MayLeave now image = (image ≡ now.bytes) ⊎ MayTearTo now image

-- each image that a crash may leave of a content has P
abbrev pub LeavesOnly : Content → (List ℕ → Type 0) → Type 0
LeavesOnly now P = (image : List ℕ) → MayLeave now image → P image

-- Bytes with others written over them from a place on. Where the place lies past the end, zeros fill the gap. No bytes
-- change nothing.
abbrev pub written_over : List ℕ → ℕ → List ℕ → List ℕ
written_over old place [] = old
written_over old place (byte ∷ bytes) =
    take place old ++ replicate (place - length old) 0 ++ (byte ∷ bytes) ++ drop (place + length (byte ∷ bytes)) old

-- these bytes, all of them made sure of
abbrev pub settled : List ℕ → Content
settled bytes = record { bytes = bytes; synced = bytes; unsynced = [] }

-- a content after one more change, of which reads give these bytes
abbrev pub changed : Content → Change → List ℕ → Content
changed now change bytes = record { bytes = bytes; synced = now.synced; unsynced = change ∷ now.unsynced }

-- the change that a write of so many bytes at a place is
abbrev pub write_change : ℕ → ℕ → Content → Change
write_change place count now = Written (min place (length now.bytes)) (place + count)

-- the change that a cut is
abbrev pub cut_change : ℕ → Content → Change
cut_change n now = Cut n
