-- What calls and edits make of a root whose log is told.
use Rattle.std.specs.Prelude.{◌≡◌, ℕ, ◌+◌, cond, List, [], ◌∷◌, ◌++◌, length, nat_le, nat_lt, Option, Some, None, Result, Ok, Err, MatchBool, ⊤, ◌⊎◌}
use Rattle.std.specs.Option.{option_map}
use Rattle.std.specs.declared.alloc.AllocError.{AllocError}
use Rattle.entry_tree.specs.Tree.{Names}
use Rattle.entry_tree.specs.declared.entry.Entry.{Entry}
use Rattle.roots_api.specs.Answers.{is_full}
use Rattle.roots_api.specs.Edits.{refused_at, first_of}
use Rattle.roots_api.specs.Logs.{state_of, log_size, bytes_held, logged}
use Rattle.roots_api.specs.States.{RootState}
use Rattle.roots_api.specs.Steps.{answer_of}
use Rattle.roots_api.specs.Views.{atom_of}
use Rattle.roots_api.specs.declared.answer.Answer.{Answer}
use Rattle.roots_api.specs.declared.answer.Answer.TheVariants.{Failed, Done}
use Rattle.roots_api.specs.declared.edit.Edit.{Edit}
use Rattle.roots_api.specs.declared.edit.Edit.TheVariants.{Put}
use Rattle.roots_api.specs.declared.edit_error.EditError.{EditError}
use Rattle.roots_api.specs.declared.edit_error.EditError.TheVariants.{LogFull, EditRefused, BytesFull, Memory}
use Rattle.roots_api.specs.declared.event.Deed.TheVariants.{Asked, Edited}
use Rattle.roots_api.specs.declared.event.Event.{Event}
use Rattle.roots_api.specs.declared.limits.TheConstants.{MAX_LOG_SIZE, MAX_BYTES_HELD}
use Rattle.roots_api.specs.declared.op.Op.{Op}
use Rattle.roots_api.specs.declared.who.Who.{Who}
use Rattle.roots_api.specs.declared.who.Who.TheVariants.{Editor, Session}

-- who is a session
abbrev pub IsSession : Who → Type 0
IsSession Editor = ⊥
IsSession (Session id run cycle) = ⊤

-- the event of an operation
abbrev pub call_event : Who → Op → Answer (List ℕ) → Event
call_event who op answer = record { who = who; deed = Asked op; answer = logged op answer }

-- the event of an edit
abbrev pub edit_event : Edit → Event
edit_event edit = record { who = Editor; deed = Edited edit; answer = Done None }

-- a session's operation is answered by its row on a state, or Failed
abbrev pub AnswersOn : RootState → Who → Op → Answer (List ℕ) → Type 0
AnswersOn s Editor op answer = ⊥
AnswersOn s (Session id run cycle) op answer = (answer ≡ Failed) ⊎ (answer ≡ answer_of s id op)

-- what a call makes of a log: one event, that of its operation and answer; Full and want of memory add none
abbrev pub CallsOn : Who → Op → Result (Answer (List ℕ)) AllocError → List Event → List Event → Type 0
CallsOn who op (Err error) old new = new ≡ old
CallsOn who op (Ok answer) old new =
    MatchBool (is_full answer) (new ≡ old) (AnswersOn (state_of old) who op answer × (new ≡ old ++ call_event who op answer ∷ []))

-- the bytes that an edit adds to the ledger
abbrev pub put_by : Edit → List ℕ
put_by (Put path bytes) = bytes
put_by edit = []

-- the refusal that names a path with what is found there
abbrev pub refused_by : RootState → Names × Option Entry → EditError
refused_by s refused = EditRefused refused.0 (option_map (atom_of s.ledger) refused.1)

-- Why an edit isn't done on a root with this log, the first that holds: the log is full; the parent, or the path, isn't
-- as it has to be; the bytes held and those of the edit pass the limit.
abbrev pub edit_error : List Event → Edit → Option EditError
edit_error log edit =
    first_of (cond (nat_le MAX_LOG_SIZE (log_size log)) (Some (LogFull (log_size log))) None)
    (first_of (option_map (refused_by (state_of log)) (refused_at (state_of log).tree edit))
    (cond (nat_lt MAX_BYTES_HELD (bytes_held log + length (put_by edit))) (Some (BytesFull (bytes_held log))) None))

-- What an edit makes of a log: its event where nothing speaks against it, and else nothing. There may be no memory.
abbrev pub EditsBy : Option EditError → Edit → Result Unit EditError → List Event → List Event → Type 0
EditsBy None edit (Ok done) old new = new ≡ old ++ edit_event edit ∷ []
EditsBy None edit (Err error) old new = (error ≡ Memory) × (new ≡ old)
EditsBy (Some why) edit (Ok done) old new = ⊥
EditsBy (Some why) edit (Err error) old new = ((error ≡ why) ⊎ (error ≡ Memory)) × (new ≡ old)

abbrev pub EditsOn : Edit → Result Unit EditError → List Event → List Event → Type 0
EditsOn edit result old new = EditsBy (edit_error old edit) edit result old new
