-- What a checkpoint leaves of the spare disk.
use Rattle.std.specs.Prelude.{ℕ, List, [], length, Result, Ok, Err}
use Rattle.disk_model.specs.Content.{Content, LeavesOnly}
use Rattle.frame_journal.specs.Layout.{frames}
use Rattle.frame_journal.specs.Reading.{BeginsShut}
use Rattle.frame_journal.specs.Resting.{IsResting}
use Rattle.frame_journal.specs.Older.{StandsBehind, IsOlder, behind_first}
use Rattle.frame_journal.specs.declared.checkpoint.CheckpointFault.{CheckpointFault}
use Rattle.frame_journal.specs.declared.checkpoint.CheckpointFault.TheVariants.{AtShutting, AtBody, AtOpening}

-- what stands behind a checkpoint of these frames, by its outcome
abbrev pub CheckpointLeaves : Result (Unit {0}) CheckpointFault → (ℕ → Type 0) → List (List ℕ) → Content → Type 0
CheckpointLeaves (Ok done) loses payloads now = IsResting payloads (length (frames payloads)) now
CheckpointLeaves (Err AtShutting) loses payloads now = LeavesOnly now (IsOlder loses)
CheckpointLeaves (Err AtBody) loses payloads now = LeavesOnly now BeginsShut
CheckpointLeaves (Err AtOpening) loses payloads now = LeavesOnly now (StandsBehind [] (behind_first payloads))
