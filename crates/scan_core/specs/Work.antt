-- What a scan's code keeps of its state.
use Rattle.std.specs.Prelude.{◌≡◌, ◌≤◌, ℕ, List, length}
use Rattle.roots_api.specs.declared.limits.TheConstants.{MAX_FETCH}
use Rattle.scan_core.specs.Reading.{IsReading}
use Rattle.scan_core.specs.Scan.{ScanState, state_of, IsTaken}
use Rattle.scan_core.specs.Told.{Told}
use Rattle.scan_core.specs.declared.board.Board.{Board}
use Rattle.scan_core.specs.declared.work.Work.{Work}

-- this is kept of a scan's state: its board, and of the bytes that were handed in what a hasher keeps
pub record IsWork (s : ScanState) (work : Work) : Type 0 where
  pub board : work.board ≡ s.board
  pub reading : IsReading work.reading s.begun

-- the state with this board and these bytes
abbrev pub with_begun : Board → List ℕ → ScanState
with_begun b begun = record { board = b; begun = begun }

-- this is kept of a scan that was told this
pub record IsScan (entries size : ℕ) (work : Work) (told : List Told) : Type 0 where
  pub work_is : IsWork (state_of (record { entries = entries; size = size; told = told })) work
  pub taken : IsTaken (record { entries = entries; size = size; told = told })
  pub limit : size ≤ MAX_FETCH
  pub small : length (state_of (record { entries = entries; size = size; told = told })).begun ≤ size
