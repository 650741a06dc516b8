-- The moments of a run of calls, and what crashes at these leave. A moment is a content of a disk's history, which has
-- the newest first.
use Rattle.std.specs.Prelude.{◌≡◌, ℕ, ◌+◌, ◌≤◌, List, ◌∷◌, ◌++◌, length}
use Rattle.disk_model.specs.Content.{Content, MayLeave}

-- an older history goes on as a newer one
pub record GoesOn (old new : List Content) : Type 0 where
  pub later : List Content
  pub is : new ≡ later ++ old

-- a content of a history that isn't one of the first n, less one: where n is the length of an older history, it is that
-- one's newest or came later
pub record IsMoment (n : ℕ) (history : List Content) (now : Content) : Type 0 where
  pub later : List Content
  pub past : List Content
  pub stands : history ≡ later ++ now ∷ past
  pub from : n ≤ length (now ∷ past)

-- a crash at one of these moments may leave this image
abbrev pub LeftFrom : ℕ → List Content → List ℕ → Type 0
LeftFrom n history image = (now : Content) × IsMoment n history now × MayLeave now image

-- at a moment since old, its newest content among them
abbrev pub LeftSince : List Content → List Content → List ℕ → Type 0
LeftSince old new image = LeftFrom (length old) new image

-- at a moment behind old
abbrev pub LeftAfter : List Content → List Content → List ℕ → Type 0
LeftAfter old new image = LeftFrom (length old + 1) new image

-- from old on the disk had more contents, and each image that a crash may leave of one of these has P
pub record LeavesAfter (old new : List Content) (P : List ℕ → Type 0) : Type 0 where
  pub goes_on : GoesOn old new
  pub leaves : (image : List ℕ) → LeftAfter old new image → P image

-- a crash at any moment since old, the one of old itself among them, leaves an image that has P
pub record LeavesSince (old new : List Content) (P : List ℕ → Type 0) : Type 0 where
  pub goes_on : GoesOn old new
  pub leaves : (image : List ℕ) → LeftSince old new image → P image

-- Two disks, each with its own moments since, in whatever order these came: any two images that a crash may leave of
-- the one and of the other have P.
pub record LeavesBothSince (old new old' new' : List Content) (P : List ℕ → List ℕ → Type 0) : Type 0 where
  pub goes_on : GoesOn old new
  pub goes_on' : GoesOn old' new'
  pub leaves : (image image' : List ℕ) → LeftSince old new image → LeftSince old' new' image' → P image image'

-- the same of the moments behind old
pub record LeavesBothAfter (old new old' new' : List Content) (P : List ℕ → List ℕ → Type 0) : Type 0 where
  pub goes_on : GoesOn old new
  pub goes_on' : GoesOn old' new'
  pub leaves : (image image' : List ℕ) → LeftAfter old new image → LeftAfter old' new' image' → P image image'
