-- How much a scan asks, by what it was told.
use Rattle.std.specs.Prelude.{◌≡◌, ◌≤◌, ℕ, ◌+◌, ◌*◌, ◌==◌, Bool, true, false, List, [], ◌∷◌, ◌++◌, length, cond, Option, Some, None}
use Rattle.roots_api.specs.declared.answer.Answer.{Answer}
use Rattle.roots_api.specs.declared.limits.TheConstants.{MAX_PIECE}
use Rattle.roots_api.specs.declared.op.Op.{Op}
use Rattle.roots_api.specs.declared.op.Op.TheVariants.{Fetch}
use Rattle.scan_core.specs.Scan.{ScanState, ScanTold, new_state, state_of, asked, after_told, IsTaken}
use Rattle.scan_core.specs.Told.{Told}
use Rattle.scan_laws.specs.ScanLists.{is_list, rows_heard}
use Rattle.scan_laws.specs.Seen.{Heard, piece_len}

-- what was asked with what was answered, if anything was asked
abbrev pub heard_as : Option Op → Answer (List ℕ) → List (Heard (List ℕ))
heard_as None answer = []
heard_as (Some op) answer = record { op = op; answer = answer } ∷ []

abbrev pub heard_from : ℕ → ScanState → List Told → List (Heard (List ℕ))
heard_from size s [] = []
heard_from size s (t ∷ ts) = heard_as (asked s) t.answer ++ heard_from size (after_told size s t) ts

-- what a scan asked, and what it was answered, the oldest first
abbrev pub heard_by : ScanTold → List (Heard (List ℕ))
heard_by m = heard_from m.size new_state m.told

-- how many Lists were asked
abbrev pub lists_in : {B : Type 0} → List (Heard B) → ℕ
lists_in [] = 0
lists_in (h ∷ hs) = cond (is_list h.op) 1 0 + lists_in hs

-- whether an operation is a Fetch
abbrev pub is_fetch : Op → Bool
is_fetch (Fetch path stamp offset) = true
is_fetch op = false

-- whether an operation is a Fetch from the first byte of a file on
abbrev pub begins_file : Op → Bool
begins_file (Fetch path stamp offset) = offset == 0
begins_file op = false

-- A scan asks for at most one List more than rows were listed. All else that it asks are Fetches.
abbrev pub ListsAreBounded : Type 0
ListsAreBounded = (m : ScanTold) → IsTaken m → lists_in (heard_by m) ≤ 1 + rows_heard (heard_by m)

-- the rows that count against the limit are all that were listed on the side, and never pass it
abbrev pub RowsAreCounted : Type 0
RowsAreCounted = (m : ScanTold) → IsTaken m → ((state_of m).board.rows ≡ rows_heard (heard_by m)) × ((state_of m).board.rows ≤ m.entries)

-- how many Fetches were asked
abbrev pub fetches_in : {B : Type 0} → List (Heard B) → ℕ
fetches_in [] = 0
fetches_in (h ∷ hs) = cond (is_fetch h.op) 1 0 + fetches_in hs

-- how many files were begun: Fetches from their first byte on
abbrev pub files_in : {B : Type 0} → List (Heard B) → ℕ
files_in [] = 0
files_in (h ∷ hs) = cond (begins_file h.op) 1 0 + files_in hs

-- how many bytes were fetched
abbrev pub bytes_in : List (Heard (List ℕ)) → ℕ
bytes_in [] = 0
bytes_in (h ∷ hs) = piece_len length h.answer + bytes_in hs

-- A scan makes at most as many Fetches as files were begun and full pieces were read: of each file as many as it has pieces, and at least one.
abbrev pub FetchesAreBounded : Type 0
FetchesAreBounded = (m : ScanTold) → IsTaken m → fetches_in (heard_by m) * MAX_PIECE ≤ files_in (heard_by m) * MAX_PIECE + bytes_in (heard_by m)

-- All that a scan asks are Lists and Fetches.
abbrev pub AsksListsAndFetches : Type 0
AsksListsAndFetches = (m : ScanTold) → length (heard_by m) ≡ lists_in (heard_by m) + fetches_in (heard_by m)
