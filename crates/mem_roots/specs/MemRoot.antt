-- What a root in memory answers, and what it makes of its log.
use Rattle.std.specs.Prelude.{◌≡◌, ℕ, ◌+◌, ◌-◌, ◌^◌, ◌==◌, Bool, ◌||◌, cond, List, [], ◌∷◌, ◌++◌, length, min, nat_lt, unwrap_or, Result, Ok, Err, Some, None, ◌⊎◌}
use Rattle.std.specs.List.{list_any}
use Rattle.std.specs.declared.alloc.AllocError.{AllocError}
use Rattle.roots_api.specs.Answers.{is_done, is_full}
use Rattle.roots_api.specs.Logs.{state_of, log_size, bytes_held, asked_in, rows_in, appended_by}
use Rattle.roots_api.specs.States.{RootState, kept_by}
use Rattle.roots_api.specs.Steps.{answer_of}
use Rattle.roots_api.specs.Told.{call_event, edit_event, edit_error}
use Rattle.roots_api.specs.declared.answer.Answer.{Answer}
use Rattle.roots_api.specs.declared.answer.Answer.TheVariants.{Full, Failed}
use Rattle.roots_api.specs.declared.answer.Room.{Room}
use Rattle.roots_api.specs.declared.edit.Edit.{Edit}
use Rattle.roots_api.specs.declared.edit_error.EditError.{EditError}
use Rattle.roots_api.specs.declared.edit_error.EditError.TheVariants.{Memory}
use Rattle.roots_api.specs.declared.event.Event.{Event}
use Rattle.roots_api.specs.declared.limits.TheConstants.{MAX_LOG_SIZE, MAX_BYTES_HELD}
use Rattle.roots_api.specs.declared.op.Op.{Op}
use Rattle.roots_api.specs.declared.op.Op.TheVariants.{Place}
use Rattle.roots_api.specs.declared.who.Who.{Who}
use Rattle.roots_api.specs.declared.who.Who.TheVariants.{Editor, Session}

-- A root in memory: its log, the numbers of the operations that are to fail, and how many times it answered Full.
pub record MemState : Type 0 where
  pub log : List Event
  pub fails : List ℕ
  pub full_answers : ℕ

-- a root as it is made
abbrev pub new_mem : MemState
new_mem = record { log = []; fails = []; full_answers = 0 }

-- the identifier of a session
abbrev pub id_of : Who → ℕ
id_of Editor = 0
id_of (Session id run cycle) = id

-- how full a log is
abbrev pub room_of : List Event → Room
room_of log = record { log = log_size log; bytes = bytes_held log }

-- whether the event of an operation with this answer, or the bytes that it stages, would pass a limit
abbrev pub has_no_room : List Event → Op → Answer (List ℕ) → Bool
has_no_room log op answer =
    nat_lt MAX_LOG_SIZE (log_size log + (1 + rows_in answer)) || nat_lt MAX_BYTES_HELD (bytes_held log + length (appended_by op))

-- whether the next operation is to fail: the log holds so many
abbrev pub is_to_fail : MemState → Bool
is_to_fail m = list_any (λ n. asked_in m.log == n) m.fails

-- the bytes that an operation with this answer adds to the ledger
abbrev pub placed_by : RootState → ℕ → Op → Answer (List ℕ) → List ℕ
placed_by s id (Place path digest exec expected) answer = cond (is_done answer) (unwrap_or (kept_by s id digest) []) []
placed_by s id op answer = []

-- whether they would pass the limit
abbrev pub places_too_much : List Event → ℕ → Op → Answer (List ℕ) → Bool
places_too_much log id op answer = nat_lt MAX_BYTES_HELD (bytes_held log + length (placed_by (state_of log) id op answer))

-- What is answered where the row answers so, the first that holds: Full where there is no room for the event; Failed
-- where it is to fail; Full where there is no room for the bytes of a Place; and else the row's answer.
abbrev pub decided : MemState → ℕ → Op → Answer (List ℕ) → Answer (List ℕ)
decided m id op answer =
    cond (has_no_room m.log op answer) (Full (room_of m.log))
    (cond (is_to_fail m) Failed
    (cond (places_too_much m.log id op answer) (Full (room_of m.log)) answer))

-- what a root answers to a session's operation
abbrev pub mem_answer : MemState → Who → Op → Answer (List ℕ)
mem_answer m who op = decided m (id_of who) op (answer_of (state_of m.log) (id_of who) op)

-- the root once an event is logged
abbrev pub with_event : MemState → Event → MemState
with_event m e = record { log = m.log ++ e ∷ []; fails = m.fails; full_answers = m.full_answers }

-- the root once it answered Full; the count stays at 2^64 - 1
abbrev pub with_full : MemState → MemState
with_full m = record { log = m.log; fails = m.fails; full_answers = min (m.full_answers + 1) (2 ^ 64 - 1) }

-- the root once it answered: a Full is counted, and any other answer is logged
abbrev pub mem_after : MemState → Who → Op → Answer (List ℕ) → MemState
mem_after m who op answer = cond (is_full answer) (with_full m) (with_event m (call_event who op answer))

-- from which root to which an answer to an operation leads
abbrev pub Leads : MemState → Who → Op → Result (Answer (List ℕ)) AllocError → MemState → Type 0
Leads old who op (Ok answer) new = (answer ≡ mem_answer old who op) × (new ≡ mem_after old who op answer)
Leads old who op (Err error) new = new ≡ old

-- what an editor's change comes to where there is memory: it is one event, or refused for its cause
abbrev pub Decides : MemState → Edit → Result Unit EditError → MemState → Type 0
Decides old edit (Ok done) new = (edit_error old.log edit ≡ None) × (new ≡ with_event old (edit_event edit))
Decides old edit (Err error) new = (edit_error old.log edit ≡ Some error) × (new ≡ old)

-- from which root to which an outcome of a change leads; without memory all stays as it was
abbrev pub Edits : MemState → Edit → Result Unit EditError → MemState → Type 0
Edits old edit result new = Decides old edit result new ⊎ ((result ≡ Err Memory) × (new ≡ old))
