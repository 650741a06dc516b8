-- The rows of the idle book, as a finite map from identifiers to rows.
use Rattle.std.specs.Prelude.{◌≡◌, ℕ, ◌<◌, cond, Option, None, Some}
use Rattle.std.specs.Ordering.{nat_cmp}
use Rattle.std.specs.FinMap.{FinMap, get, insert, contains_key, from_entries}
use Rattle.std.specs.BTreeMap.{BTreeMap}
use Rattle.worker_pool.specs.declared.row.TheConstants.{LAST_COUNT}
use Rattle.worker_pool.specs.declared.row.Away.{Away}
use Rattle.worker_pool.specs.declared.row.Row.{Row}
use Rattle.worker_pool.specs.IdleRow.{row_of, away_of, new_row, called, task_in}

abbrev pub Rows : Type 0 → Type 0
Rows T = FinMap nat_cmp (Row T)

-- the rows that the tree holds
abbrev pub rows_in : {T : Type 0} → BTreeMap ℕ (Row T) → Rows T
rows_in tree = from_entries tree.entries

-- the task that is put away in the row, if there is one
abbrev pub task_at : {T : Type 0} → Option (Row T) → Option T
task_at None = None
task_at (Some r) = task_in r.away

-- the row's count of calls, 0 without a row
abbrev pub calls_at : {T : Type 0} → Option (Row T) → ℕ
calls_at None = 0
calls_at (Some r) = r.calls

-- the rows once the identifier has one
abbrev pub entered : {T : Type 0} → Rows T → ℕ → Rows T
entered rows id = cond (contains_key rows id) rows (insert rows id new_row)

abbrev pub call_in : {T : Type 0} → Rows T → ℕ → Option (Row T) → Rows T
call_in rows id None = rows
call_in rows id (Some r) = insert rows id (called r)

-- the rows after a call of the identifier
abbrev pub called_at : {T : Type 0} → Rows T → ℕ → Rows T
called_at rows id = call_in rows id (get rows id)

-- a task of this identifier may be put away there
abbrev pub CanPut : {T : Type 0} → Rows T → ℕ → ℕ → Type 0
CanPut rows id looked = (get rows id ≡ Some (row_of looked None)) × (looked < LAST_COUNT)

-- the rows with the task put away
abbrev pub put_at : {T : Type 0} → Rows T → ℕ → T → ℕ → Rows T
put_at rows id task looked = insert rows id (row_of looked (Some (away_of task looked)))

-- a task that is put away lies in its own identifier's row, whose count of calls is the one that was looked at before the task's turn
abbrev pub IsPutAway : {T : Type 0} → (T → ℕ) → ℕ → Row T → Away T → Type 0
IsPutAway identity id r a = (identity a.task ≡ id) × (r.calls ≡ a.looked) × (a.looked < LAST_COUNT)

abbrev pub ArePutAway : {T : Type 0} → (T → ℕ) → Rows T → Type 0
ArePutAway {T} identity rows = (id : ℕ) (r : Row T) (a : Away T) → get rows id ≡ Some r → r.away ≡ Some a → IsPutAway identity id r a
