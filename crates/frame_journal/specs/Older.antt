-- What the spare disk of a journal on two disks may hold.
use Rattle.std.specs.Prelude.{◌≡◌, ◌⊎◌, ℕ, ◌≤◌, List, [], ◌∷◌, ◌++◌, length, drop}
use Rattle.frame_journal.specs.Layout.{frames, OpensWith}
use Rattle.frame_journal.specs.Generation.{generation_of}

-- some byte stands in front of these
pub record StandsBehind (front behind file : List ℕ) : Type 0 where
  pub gate : ℕ
  pub split : file ≡ front ++ gate ∷ behind

-- a file opens with frames of a generation that loses
abbrev pub OpensLesser : (ℕ → Type 0) → List ℕ → Type 0
OpensLesser loses file = (payloads : List (List ℕ)) × OpensWith payloads file × loses (generation_of payloads)

-- what stands behind a file's first gate, where the gate is open, opens with frames of a generation that loses
abbrev pub IsOlder : (ℕ → Type 0) → List ℕ → Type 0
IsOlder loses file = (length file ≤ 1) ⊎ ((rest : List ℕ) × StandsBehind [] rest file × OpensLesser loses (1 ∷ rest))

-- what a checkpoint of these frames writes behind its first gate
abbrev pub behind_first : List (List ℕ) → List ℕ
behind_first payloads = drop 1 (frames payloads ++ 0 ∷ [])
