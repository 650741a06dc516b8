-- What a reader finds at a place of a file.
use Rattle.std.specs.Prelude.{◌≡◌, ◌≢◌, ℕ, ◌+◌, ◌^◌, ◌<◌, List, [], ◌∷◌, ◌++◌, length, map, drop, Vec}
use Rattle.std.specs.Int.{w64, to_be_bytes}
use Rattle.std.specs.declared.alloc.Global.{Global}
use Rattle.frame_journal.specs.Layout.{block, frame, frames, IsPayload, ArePayloads, EndsShut, OpensWith, BreaksBehind}
use Rattle.frame_journal.specs.declared.frames.Ending.{Ending}
use Rattle.frame_journal.specs.declared.frames.Ending.TheVariants as ending
use Rattle.frame_journal.specs.declared.frames.Found.{Found}
use Rattle.frame_journal.specs.declared.frames.Found.TheVariants as found
use Rattle.frame_journal.specs.declared.frames.Head.{Head}
use Rattle.frame_journal.specs.declared.frames.Head.TheVariants as head

-- the bytes of each vector
abbrev pub payloads_of : List (Vec ℕ Global) → List (List ℕ)
payloads_of vectors = map (λ v. v.items) vectors

-- these are the frames up to the first shut gate, which stands at this place
pub record EndsAt (payloads : List (List ℕ)) (place : ℕ) (file : List ℕ) : Type 0 where
  pub ends : EndsShut payloads file
  pub at : place ≡ length (frames payloads)

-- the whole frames of a file, and what stands behind them
abbrev pub EndsAs : Ending → List (List ℕ) → ℕ → List ℕ → Type 0
EndsAs ending.Shut payloads place file = EndsAt payloads place file
EndsAs ending.Bad payloads place file = BreaksBehind payloads file

-- the same of a file of any length
abbrev pub IsWholeUpTo : Ending → List (List ℕ) → List ℕ → Type 0
IsWholeUpTo ending.Shut payloads file = OpensWith payloads file
IsWholeUpTo ending.Bad payloads file = BreaksBehind payloads file

-- these are the first frames of a file, and end at this place
pub record ReadUpTo (payloads : List (List ℕ)) (place : ℕ) (file : List ℕ) : Type 0 where
  pub split : file ≡ frames payloads ++ drop place file
  pub at : place ≡ length (frames payloads)
  pub fit : ArePayloads payloads

-- bytes begin with a gate that is shut
abbrev pub BeginsShut : List ℕ → Type 0
BeginsShut [] = ⊥
BeginsShut (gate ∷ rest) = gate ≢ 1

-- bytes begin with an open gate, and no whole frame with one more byte stands there
pub record BeginsBad (file : List ℕ) : Type 0 where
  pub rest : List ℕ
  pub split : file ≡ 1 ∷ rest
  pub not_whole : (payload : List ℕ) (next : ℕ) (more : List ℕ) → IsPayload payload → rest ≡ block payload ++ next ∷ more → ⊥

-- bytes begin with an open gate, of which fewer than eight stand behind it
pub record BeginsShort (file : List ℕ) : Type 0 where
  pub rest : List ℕ
  pub split : file ≡ 1 ∷ rest
  pub short : length rest < 8

-- bytes begin with an open gate and this length
pub record BeginsWithLength (n : ℕ) (file : List ℕ) : Type 0 where
  pub split : file ≡ 1 ∷ to_be_bytes w64 n ++ drop 9 file
  pub fits : n < 2 ^ 64

abbrev pub IsHeadOf : Head → List ℕ → Type 0
IsHeadOf head.Shut file = BeginsShut file
IsHeadOf head.Short file = BeginsShort file
IsHeadOf (head.Length n) file = BeginsWithLength n file

-- a whole frame stands at a place, with one more byte behind it
pub record IsFrameAt (payload : List ℕ) (place : ℕ) (file : List ℕ) : Type 0 where
  pub split : drop place file ≡ frame payload ++ drop (place + 9 + length payload) file
  pub fits : IsPayload payload
  pub more : place + 9 + length payload < length file

abbrev pub IsFoundAt : Found → ℕ → List ℕ → Type 0
IsFoundAt (found.Frame payload) place file = IsFrameAt payload.items place file
IsFoundAt found.Shut place file = BeginsShut (drop place file)
IsFoundAt found.Bad place file = BeginsBad (drop place file)

-- what was found ends before the end, also where the disk doesn't tell what it holds
abbrev pub EndsWithin : Found → ℕ → ℕ → Type 0
EndsWithin (found.Frame payload) place end = place + 9 + length payload.items < end
EndsWithin found.Shut place end = Unit {0}
EndsWithin found.Bad place end = Unit {0}
