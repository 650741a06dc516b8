-- One disk's layout: frames one behind the other, and a gate behind the last.
use Rattle.std.specs.Prelude.{◌≡◌, ◌≢◌, ◌⊎◌, ℕ, ◌^◌, ◌<◌, ◌≤◌, List, [], ◌∷◌, ◌++◌, length}
use Rattle.std.specs.List.{flat_map, AllByRecursion}
use Rattle.std.specs.Int.{w64, to_be_bytes}

-- what a frame has behind its gate: the length of its payload, in eight bytes, and the payload
abbrev pub block : List ℕ → List ℕ
block payload = to_be_bytes w64 (length payload) ++ payload

-- a frame whose gate is open, which is the byte 1
abbrev pub frame : List ℕ → List ℕ
frame payload = 1 ∷ block payload

abbrev pub frames : List (List ℕ) → List ℕ
frames payloads = flat_map frame payloads

-- a payload whose length has a place in a frame
abbrev pub IsPayload : List ℕ → Type 0
IsPayload payload = length payload < 2 ^ 64

abbrev pub ArePayloads : List (List ℕ) → Type 0
ArePayloads payloads = AllByRecursion IsPayload payloads

-- a file is these frames, a shut gate, which is any byte but 1, and anything behind that
pub record EndsShut (payloads : List (List ℕ)) (file : List ℕ) : Type 0 where
  pub gate : ℕ
  pub rest : List ℕ
  pub split : file ≡ frames payloads ++ gate ∷ rest
  pub shut : gate ≢ 1
  pub fit : ArePayloads payloads

-- A file opens with these payloads: they are those of its frames up to the first shut gate. A file of at most one byte
-- opens with none, whatever the byte.
abbrev pub OpensWith : List (List ℕ) → List ℕ → Type 0
OpensWith payloads file = ((payloads ≡ []) × (length file ≤ 1)) ⊎ EndsShut payloads file

-- Behind these frames a gate is open, and no frame lies whole there with one more byte behind it.
pub record BreaksBehind (payloads : List (List ℕ)) (file : List ℕ) : Type 0 where
  pub fit : ArePayloads payloads
  -- what the file has behind that gate
  pub rest : List ℕ
  pub split : file ≡ frames payloads ++ 1 ∷ rest
  pub long : 1 < length file
  pub not_whole : (payload : List ℕ) (next : ℕ) (more : List ℕ) → IsPayload payload → rest ≡ block payload ++ next ∷ more → ⊥

-- The frame of this number, counted from 0, has an open gate, and doesn't lie whole in the file with one more byte
-- behind it.
abbrev pub IsBadFrame : ℕ → List ℕ → Type 0
IsBadFrame number file = (before : List (List ℕ)) × (length before ≡ number) × BreaksBehind before file

-- a file opens with these payloads, or with these and one more
abbrev pub OpensWithOneMore : List (List ℕ) → List ℕ → List ℕ → Type 0
OpensWithOneMore payloads payload file = OpensWith payloads file ⊎ OpensWith (payloads ++ payload ∷ []) file

-- Nothing stands behind the shut gate of these frames, at this place.
pub record IsAtRest (payloads : List (List ℕ)) (place : ℕ) (file : List ℕ) : Type 0 where
  pub gate : ℕ
  pub split : file ≡ frames payloads ++ gate ∷ []
  pub shut : gate ≢ 1
  pub fit : ArePayloads payloads
  pub at : place ≡ length (frames payloads)

-- One more frame stands whole behind the gate at this place, with a shut gate behind it. Its own gate may be any byte.
pub record IsStaged (payloads : List (List ℕ)) (payload : List ℕ) (place : ℕ) (file : List ℕ) : Type 0 where
  pub gate : ℕ
  pub split : file ≡ frames payloads ++ gate ∷ (block payload ++ 0 ∷ [])
  pub fit : ArePayloads payloads
  pub fits : IsPayload payload
  pub at : place ≡ length (frames payloads)
