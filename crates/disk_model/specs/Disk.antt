-- What the calls of a disk do to its contents. They are a list, the newest first, and the list is empty where the disk
-- doesn't tell what it holds. So each definition says nothing of such a disk but that it still tells nothing.
use Rattle.std.specs.Prelude.{◌≡◌, ◌⊎◌, ℕ, ◌+◌, ◌-◌, ◌^◌, min, List, [], ◌∷◌, ◌++◌, length, take, drop}
use Rattle.disk_model.specs.Content.{Content, Change, Tears, written_over, settled, changed, write_change, cut_change}

-- the newest content has P, where one is told
abbrev pub OnTold : List Content → (Content → Type 0) → Type 0
OnTold [] P = Unit {0}
OnTold (now ∷ past) P = P now

-- A read of n bytes from a place on: as many as fit and as the bytes have there. The rest of where they go stays.
pub record ReadsAt (bytes : List ℕ) (place : ℕ) (old : List ℕ) (n : ℕ) (new : List ℕ) : Type 0 where
  pub count : n ≡ min (length old) (length bytes - place)
  pub filled : new ≡ take n (drop place bytes) ++ drop n old

-- a write of so many bytes, of which these were made
abbrev pub WritesPart : ℕ → ℕ → List ℕ → List Content → List Content → Type 0
WritesPart place count made [] new = new ≡ []
WritesPart place count made (now ∷ past) new =
    new ≡ changed now (write_change place count now) (written_over now.bytes place made) ∷ now ∷ past

-- a write that was made whole
abbrev pub Writes : ℕ → List ℕ → List Content → List Content → Type 0
Writes place bytes old new = WritesPart place (length bytes) bytes old new

-- a cut that was made
abbrev pub Cuts : ℕ → List Content → List Content → Type 0
Cuts n [] new = new ≡ []
Cuts n (now ∷ past) new = new ≡ changed now (cut_change n now) (take n now.bytes) ∷ now ∷ past

-- a sync that was made
abbrev pub Syncs : List Content → List Content → Type 0
Syncs [] new = new ≡ []
Syncs (now ∷ past) new = new ≡ settled now.bytes ∷ now ∷ past

-- A change that failed: it wasn't begun, or it was made in some part, for reads too.
abbrev pub FailsInPart : (Content → Change) → List Content → List Content → Type 0
FailsInPart change [] new = new ≡ []
FailsInPart change (now ∷ past) new =
    (new ≡ now ∷ past) ⊎ ((bytes : List ℕ) × Tears (change now) now.bytes bytes × (new ≡ changed now (change now) bytes ∷ now ∷ past))

-- a count of calls after n more; it stays at 2^64 - 1
abbrev pub calls_after : ℕ → ℕ → ℕ
calls_after calls n = min (calls + n) (2 ^ 64 - 1)
