-- A row of the idle book: what a call and a putting away make of it.
use Rattle.std.specs.Prelude.{◌≡◌, ℕ, ◌+◌, ◌<◌, min, Option, None, Some, refl}
use Rattle.std.specs.Coded.{Coded, code_by, coded×, coded_ℕ, coded_option}
use Rattle.worker_pool.specs.declared.row.TheConstants.{LAST_COUNT}
use Rattle.worker_pool.specs.declared.row.Away.{Away}
use Rattle.worker_pool.specs.declared.row.Row.{Row}

abbrev pub row_of : {T : Type 0} → ℕ → Option (Away T) → Row T
row_of calls away = record { calls = calls; away = away }

abbrev pub away_of : {T : Type 0} → T → ℕ → Away T
away_of task looked = record { task = task; looked = looked }

-- a row as it is made: never called, and with room for one task
abbrev pub new_row : {T : Type 0} → Row T
new_row = row_of 0 None

-- a row that was called once more, whose task was handed out; the last count stays
abbrev pub called : {T : Type 0} → Row T → Row T
called r = row_of (min (r.calls + 1) LAST_COUNT) None

-- the task that is put away in a row
abbrev pub task_in : {T : Type 0} → Option (Away T) → Option T
task_in None = None
task_in (Some a) = Some a.task

-- a task may be put away: the row has the count looked at, which isn't the last one, and holds no task
abbrev pub MayPut : {T : Type 0} → Row T → ℕ → Type 0
MayPut r looked = (r ≡ row_of looked None) × (looked < LAST_COUNT)

-- rows are told apart by their fields
abbrev pub away_code : {T : Type 0} → Coded T → Coded (Away T)
away_code {T} t = code_by (T × ℕ) (coded× t coded_ℕ) (λ a. (a.task, a.looked)) (λ p. away_of p.0 p.1) (λ _. refl)

abbrev pub row_code : {T : Type 0} → Coded T → Coded (Row T)
row_code {T} t = code_by (ℕ × Option (Away T)) (coded× coded_ℕ (coded_option (away_code t))) (λ r. (r.calls, r.away)) (λ p. row_of p.0 p.1) (λ _. refl)
