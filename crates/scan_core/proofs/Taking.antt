-- A scan that takes an answer.
use Rattle.std.proofs.Common.{◌≡◌, ℕ, List, subst}
use Rattle.scan_core.specs.Reading.{IsReading}
use Rattle.scan_core.specs.Scan.{ScanState, state_of, after_told}
use Rattle.scan_core.specs.Told.{Told}
use Rattle.scan_core.specs.Work.{IsWork, IsScan, with_begun}
use Rattle.scan_core.specs.declared.work.Work.{Work}

module _ (entries size : ℕ) (work : Work) (told : List Told) (old : IsScan entries size work told) where
  abbrev pub state : ScanState
  state = state_of (record { entries = entries; size = size; told = told })

  pub read_so_far : IsReading work.reading state.begun
  read_so_far = old.work_is.reading

  same_state : with_begun work.board state.begun ≡ state
  same_state = λ i. with_begun (old.work_is.board i) state.begun

  pub work_after : (t : Told) (after : Work) → IsWork (after_told size (with_begun work.board state.begun) t) after → IsWork (after_told size state t) after
  work_after t after h = subst (λ (s : ScanState). IsWork (after_told size s t) after) same_state h
