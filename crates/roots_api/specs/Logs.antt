-- Which logs are legal, and what the state of a root is after a log.
use Rattle.std.specs.Prelude.{◌≡◌, ℕ, ◌+◌, Bool, true, false, List, [], ◌∷◌, length, sum_by, count_by, None, ⊤, ◌⊎◌}
use Rattle.roots_api.specs.Answers.{is_failed}
use Rattle.roots_api.specs.Asked.{IsAsked, IsMade}
use Rattle.roots_api.specs.Edits.{refused_at, edited}
use Rattle.roots_api.specs.States.{RootState, new_root}
use Rattle.roots_api.specs.Steps.{answer_of, after}
use Rattle.roots_api.specs.declared.answer.Answer.{Answer}
use Rattle.roots_api.specs.declared.answer.Answer.TheVariants.{Listed, Held, Piece, Changed, TooLarge, Cleared, Opened, Kept, NotStaged, DigestDiffers, Done, NoParent, Differs, NoLink, NoExec, NotEmpty, Full, Failed}
use Rattle.roots_api.specs.declared.edit.Edit.{Edit}
use Rattle.roots_api.specs.declared.event.Deed.{Deed}
use Rattle.roots_api.specs.declared.event.Deed.TheVariants.{Asked, Edited}
use Rattle.roots_api.specs.declared.event.Event.{Event}
use Rattle.roots_api.specs.declared.event.Span.{Span}
use Rattle.roots_api.specs.declared.op.Op.{Op}
use Rattle.roots_api.specs.declared.op.Op.TheVariants.{Fetch, StageAppend}
use Rattle.roots_api.specs.declared.who.Who.{Who}
use Rattle.roots_api.specs.declared.who.Who.TheVariants.{Editor, Session}

-- the byte from which on an operation fetches
abbrev pub offset_of : Op → ℕ
offset_of (Fetch path stamp offset) = offset
offset_of op = 0

-- an answer with where the bytes of a piece are, in place of the bytes
abbrev pub spanned : ℕ → Answer (List ℕ) → Answer Span
spanned offset (Listed rows) = Listed rows
spanned offset (Held found) = Held found
spanned offset (Piece bytes last) = Piece (record { offset = offset; length = length bytes }) last
spanned offset (Changed found) = Changed found
spanned offset (TooLarge bytes) = TooLarge bytes
spanned offset Cleared = Cleared
spanned offset Opened = Opened
spanned offset Kept = Kept
spanned offset NotStaged = NotStaged
spanned offset (DigestDiffers wanted got) = DigestDiffers wanted got
spanned offset (Done stamp) = Done stamp
spanned offset (NoParent found) = NoParent found
spanned offset (Differs found) = Differs found
spanned offset NoLink = NoLink
spanned offset NoExec = NoExec
spanned offset NotEmpty = NotEmpty
spanned offset (Full room) = Full room
spanned offset Failed = Failed

-- what a log keeps of the answer to an operation
abbrev pub logged : Op → Answer (List ℕ) → Answer Span
logged op answer = spanned (offset_of op) answer

-- the state after an event: that of the operation by its answer, or of the edit
abbrev pub after_deed : RootState → Who → Deed → Answer Span → RootState
after_deed s (Session id run cycle) (Asked op) answer = after s id op answer
after_deed s Editor (Asked op) answer = s
after_deed s who (Edited edit) answer = edited s edit

abbrev pub after_event : RootState → Event → RootState
after_event s e = after_deed s e.who e.deed e.answer

-- the state after some events, the oldest first
abbrev pub after_events : RootState → List Event → RootState
after_events s [] = s
after_events s (e ∷ es) = after_events (after_event s e) es

-- the state of a root with this log
abbrev pub state_of : List Event → RootState
state_of log = after_events new_root log

-- a session's operation can be asked, and is answered by its row on the state before it, or Failed
pub record IsLegalCall (s : RootState) (id : ℕ) (op : Op) (answer : Answer Span) : Type 0 where
  pub asked : IsAsked op
  pub row : (answer ≡ Failed) ⊎ (answer ≡ logged op (answer_of s id op))

-- an editor's change can be made, and the state before it doesn't refuse it
pub record IsLegalEdit (s : RootState) (edit : Edit) (answer : Answer Span) : Type 0 where
  pub made : IsMade edit
  pub allowed : refused_at s.tree edit ≡ None
  pub done : answer ≡ Done None

-- what a session or an editor did, with its answer, is legal on the state before it
abbrev pub IsLegalDeed : RootState → Who → Deed → Answer Span → Type 0
IsLegalDeed s (Session id run cycle) (Asked op) answer = IsLegalCall s id op answer
IsLegalDeed s Editor (Edited edit) answer = IsLegalEdit s edit answer
IsLegalDeed s Editor (Asked op) answer = ⊥
IsLegalDeed s (Session id run cycle) (Edited edit) answer = ⊥

abbrev pub IsLegalEvent : RootState → Event → Type 0
IsLegalEvent s e = IsLegalDeed s e.who e.deed e.answer

-- each of some events is legal on the state before it
abbrev pub AreLegal : RootState → List Event → Type 0
AreLegal s [] = ⊤
AreLegal s (e ∷ es) = IsLegalEvent s e × AreLegal (after_event s e) es

-- a legal log: each event is legal on the state that the events before it leave
abbrev pub IsLegal : List Event → Type 0
IsLegal log = AreLegal new_root log

-- how many rows an answer lists
abbrev pub rows_in : {B : Type 0} → Answer B → ℕ
rows_in (Listed rows) = length rows
rows_in answer = 0

-- the size of an event: itself, and the rows that it lists
abbrev pub event_size : Event → ℕ
event_size e = 1 + rows_in e.answer

-- the size of a log
abbrev pub log_size : List Event → ℕ
log_size log = sum_by event_size log

-- the bytes that an operation appends to a staged file
abbrev pub appended_by : Op → List ℕ
appended_by (StageAppend bytes) = bytes
appended_by op = []

-- the bytes that an event has staged
abbrev pub staged_bytes : Deed → ℕ
staged_bytes (Asked op) = length (appended_by op)
staged_bytes (Edited edit) = 0

-- the bytes held: those of the ledger, and of all that was staged, since the log keeps it
abbrev pub bytes_held : List Event → ℕ
bytes_held log = sum_by length (state_of log).ledger + sum_by (λ e. staged_bytes e.deed) log

-- whether an event is an operation
abbrev pub is_asked : Event → Bool
is_asked e = is_asked_deed e.deed
  where
    is_asked_deed : Deed → Bool
    is_asked_deed (Asked op) = true
    is_asked_deed (Edited edit) = false

-- how many operations a log holds
abbrev pub asked_in : List Event → ℕ
asked_in log = count_by is_asked log

-- how many operations of a log failed
abbrev pub failed_in : List Event → ℕ
failed_in log = count_by (λ e. is_failed e.answer) log
