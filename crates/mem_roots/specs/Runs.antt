-- Whole runs of a root in memory.
use Rattle.std.specs.Prelude.{◌≡◌, ℕ, ◌+◌, ◌-◌, ◌^◌, ◌≤◌, Bool, false, cond, List, [], ◌∷◌, min, Option, Some, None}
use Rattle.std.specs.List.{AllByRecursion}
use Rattle.roots_api.specs.Answers.{is_full}
use Rattle.roots_api.specs.Asked.{IsAsked, IsMade}
use Rattle.roots_api.specs.Logs.{IsLegal, log_size, bytes_held}
use Rattle.roots_api.specs.Told.{IsSession, edit_event, edit_error}
use Rattle.roots_api.specs.declared.edit.Edit.{Edit}
use Rattle.roots_api.specs.declared.edit_error.EditError.{EditError}
use Rattle.roots_api.specs.declared.limits.TheConstants.{MAX_LOG_SIZE, MAX_BYTES_HELD}
use Rattle.roots_api.specs.declared.op.Op.{Op}
use Rattle.roots_api.specs.declared.who.Who.{Who}
use Rattle.mem_roots.specs.MemRoot.{MemState, new_mem, mem_answer, mem_after, with_event}

-- What is made of a root: an operation of a session, an editor's change, or the numbers of the operations that are
-- to fail.
pub data Use : Type 0 where
  Calls : (who : Who) → (op : Op) → Use
  Edits : (edit : Edit) → Use
  Fails : (fails : List ℕ) → Use

-- what a change makes of a root
abbrev pub mem_changed : MemState → Edit → Option EditError → MemState
mem_changed m edit None = with_event m (edit_event edit)
mem_changed m edit (Some error) = m

-- what a use makes of a root
abbrev pub mem_step : MemState → Use → MemState
mem_step m (Calls who op) = mem_after m who op (mem_answer m who op)
mem_step m (Edits edit) = mem_changed m edit (edit_error m.log edit)
mem_step m (Fails fails) = record { log = m.log; fails = fails; full_answers = m.full_answers }

-- what a list of uses makes of it
abbrev pub mem_run : MemState → List Use → MemState
mem_run m [] = m
mem_run m (u ∷ uses) = mem_run (mem_step m u) uses

-- a use that there can be: who asks is a session, an operation can be asked, and a change can be made
abbrev pub IsUse : Use → Type 0
IsUse (Calls who op) = IsSession who × IsAsked op
IsUse (Edits edit) = IsMade edit
IsUse (Fails fails) = Unit {0}

-- how many calls of a list are answered Full
abbrev pub is_answered_full : MemState → Use → Bool
is_answered_full m (Calls who op) = is_full (mem_answer m who op)
is_answered_full m (Edits edit) = false
is_answered_full m (Fails fails) = false

abbrev pub fulls_in : MemState → List Use → ℕ
fulls_in m [] = 0
fulls_in m (u ∷ uses) = cond (is_answered_full m u) 1 0 + fulls_in (mem_step m u) uses

-- what every run leaves: a legal log within its limits
pub record IsSound (m : MemState) : Type 0 where
  pub legal : IsLegal m.log
  pub log_fits : log_size m.log ≤ MAX_LOG_SIZE
  pub bytes_fit : bytes_held m.log ≤ MAX_BYTES_HELD

-- every run of operations of sessions, changes and lists of what is to fail leaves a root so
abbrev pub RunsAreSound : Type 0
RunsAreSound = (uses : List Use) → AllByRecursion IsUse uses → IsSound (mem_run new_mem uses)

-- and its count of Full answers is how many were so, up to the largest that is counted
abbrev pub CountsAreExact : Type 0
CountsAreExact = (uses : List Use) → (mem_run new_mem uses).full_answers ≡ min (fulls_in new_mem uses) (2 ^ 64 - 1)
