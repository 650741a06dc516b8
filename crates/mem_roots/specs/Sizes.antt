-- The running sizes of a log.
use Rattle.std.specs.Prelude.{◌≡◌, ℕ, ◌+◌, ◌≤◌, List}
use Rattle.roots_api.specs.Logs.{IsLegal, log_size, bytes_held, asked_in, state_of}
use Rattle.roots_api.specs.States.{RootState}
use Rattle.roots_api.specs.declared.event.Event.{Event}
use Rattle.roots_api.specs.declared.limits.TheConstants.{MAX_LOG_SIZE, MAX_BYTES_HELD}
use Rattle.mem_roots.specs.declared.sizes.Sizes.{Sizes}

-- the sizes of a log
abbrev pub sizes_of : List Event → Sizes
sizes_of log = record { log = log_size log; bytes = bytes_held log; asked = asked_in log }

-- the sizes with one operation more
abbrev pub sizes_with : Sizes → ℕ → ℕ → ℕ → Sizes
sizes_with sizes rows appended placed =
    record { log = sizes.log + (1 + rows); bytes = sizes.bytes + (appended + placed); asked = sizes.asked + 1 }

-- the sizes with one edit more
abbrev pub sizes_edited : Sizes → ℕ → Sizes
sizes_edited sizes put = record { log = sizes.log + 1; bytes = sizes.bytes + put; asked = sizes.asked }

-- State and sizes are those of the log, which is legal and within its limits.
pub record IsOfLog (log : List Event) (state : RootState) (sizes : Sizes) : Type 0 where
  pub state_is : state ≡ state_of log
  pub sizes_are : sizes ≡ sizes_of log
  pub legal : IsLegal log
  pub log_fits : log_size log ≤ MAX_LOG_SIZE
  pub bytes_fit : bytes_held log ≤ MAX_BYTES_HELD
