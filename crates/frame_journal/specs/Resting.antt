-- A disk that is ready for an append.
use Rattle.std.specs.Prelude.{◌≡◌, ℕ, List, length}
use Rattle.disk_model.specs.Content.{Content, settled}
use Rattle.frame_journal.specs.Layout.{frames, IsAtRest}

-- all that reads give is made sure of, and it is these frames with a shut gate at this place behind them, and nothing more
pub record IsResting (payloads : List (List ℕ)) (place : ℕ) (now : Content) : Type 0 where
  pub synced : now ≡ settled now.bytes
  pub rests : IsAtRest payloads place now.bytes

-- the same, wherever the gate stands
abbrev pub Rests : List (List ℕ) → Content → Type 0
Rests payloads now = IsResting payloads (length (frames payloads)) now
