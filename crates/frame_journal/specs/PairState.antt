-- What a journal on two disks is seen as, and what a crash may leave of it.
use Rattle.std.specs.Prelude.{◌≡◌, ◌⊎◌, ℕ, ◌+◌, ◌<◌, ◌≤◌, Bool, true, false, nat_lt, cond, List, Option, Some, None}
use Rattle.disk_model.specs.Content.{Content, MayLeave}
use Rattle.frame_journal.specs.Layout.{OpensWith}
use Rattle.frame_journal.specs.Generation.{generation_of, without_generation}

pub record PairState (D : Type 0) : Type 0 where
  pub first : D
  pub second : D
  -- whether the second disk is the one that it goes on with; else the first one is
  pub on_second : Bool
  -- the generation of the frames on that disk
  pub generation : ℕ
  -- the acknowledged payloads, in order, without the one that tells the generation
  pub payloads : List (List ℕ)
  -- whether a device fault came since it was opened last
  pub closed : Bool
  -- what a crash may find in place of the acknowledged payloads, since a call was refused with a device fault
  pub pending : Option (List (List ℕ))

-- the disk that it goes on with, and the other one, its spare disk
abbrev pub disk_of : {D : Type 0} → PairState D → D
disk_of journal = cond journal.on_second journal.second journal.first

abbrev pub spare_of : {D : Type 0} → PairState D → D
spare_of journal = cond journal.on_second journal.first journal.second

-- Of the frames of two disks, those gone on with: the ones of the greater generation, the first disk's on a tie.
abbrev pub chosen : List (List ℕ) → List (List ℕ) → List (List ℕ)
chosen first second = cond (nat_lt (generation_of first) (generation_of second)) second first

-- Two files open as one journal with these payloads.
pub record OpensPairWith (payloads : List (List ℕ)) (first second : List ℕ) : Type 0 where
  pub in_first : List (List ℕ)
  pub in_second : List (List ℕ)
  pub opens_first : OpensWith in_first first
  pub opens_second : OpensWith in_second second
  pub goes_on : payloads ≡ without_generation (chosen in_first in_second)

-- Two files open with the acknowledged payloads, or with what is pending.
abbrev pub MayOpenPairWith : List (List ℕ) → Option (List (List ℕ)) → List ℕ → List ℕ → Type 0
MayOpenPairWith payloads None first second = OpensPairWith payloads first second
MayOpenPairWith payloads (Some other) first second = OpensPairWith payloads first second ⊎ OpensPairWith other first second

-- what a crash at this moment may leave of a journal on two disks that tell these contents
abbrev pub LeavesPair : {D : Type 0} → PairState D → Content → Content → Type 0
LeavesPair journal first second =
    (image image' : List ℕ) → MayLeave first image → MayLeave second image' → MayOpenPairWith journal.payloads journal.pending image image'

-- how many faults the two disks counted
abbrev pub faults_of : {D : Type 0} → (D → ℕ) → PairState D → ℕ
faults_of faults journal = faults journal.first + faults journal.second

-- a disk's frames of this generation lose to those of the other one, where that goes on and is the second disk or the first
abbrev pub LosesTo : Bool → ℕ → ℕ → Type 0
LosesTo true generation lesser = lesser < generation
LosesTo false generation lesser = lesser ≤ generation
