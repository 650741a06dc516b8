-- Beginnings of logs, and what one session did in a log.
use Rattle.std.specs.Prelude.{◌≡◌, ℕ, Bool, true, false, ◌==◌, ◌&&◌, List, [], ◌∷◌, ◌++◌, map, is_some}
use Rattle.std.specs.List.{filter, list_any, AllByRecursion}
use Rattle.roots_api.specs.Answers.{is_done}
use Rattle.roots_api.specs.Logs.{IsLegal, AreLegal, after_event, state_of}
use Rattle.roots_api.specs.States.{RootState, new_root, kept_by}
use Rattle.roots_api.specs.declared.event.Deed.{Deed}
use Rattle.roots_api.specs.declared.event.Deed.TheVariants.{Asked, Edited}
use Rattle.roots_api.specs.declared.event.Event.{Event}
use Rattle.roots_api.specs.declared.op.Op.TheVariants.{StageClear}
use Rattle.roots_api.specs.declared.who.Who.{Who}
use Rattle.roots_api.specs.declared.who.Who.TheVariants.{Editor, Session}

-- a beginning of a legal log is legal, and what follows is legal behind it
abbrev pub PrefixesAreLegal : Type 0
PrefixesAreLegal = (log more : List Event) → IsLegal (log ++ more) → IsLegal log × AreLegal (state_of log) more

-- legal events behind a legal log make a legal log
abbrev pub LongerIsLegal : Type 0
LongerIsLegal = (log more : List Event) → IsLegal log → AreLegal (state_of log) more → IsLegal (log ++ more)

-- whether an event is of the session with this identifier
abbrev pub is_by : ℕ → Who → Bool
is_by id Editor = false
is_by id (Session other run cycle) = other == id

-- the events of a session
abbrev pub events_by : ℕ → List Event → List Event
events_by id log = filter (λ e. is_by id e.who) log

-- some events, each with the state before it
abbrev pub moments_from : RootState → List Event → List (RootState × Event)
moments_from s [] = []
moments_from s (e ∷ es) = (s, e) ∷ moments_from (after_event s e) es

-- the events of a log, each with the state before it
abbrev pub moments : List Event → List (RootState × Event)
moments log = moments_from new_root log

-- those of a session
abbrev pub moments_by : ℕ → List Event → List (RootState × Event)
moments_by id log = filter (λ m. is_by id m.1.who) (moments log)

-- the moments of a session are those of its events
abbrev pub MomentsAreOfEvents : Type 0
MomentsAreOfEvents = (id : ℕ) (log : List Event) → map (λ m. m.1) (moments_by id log) ≡ events_by id log

-- a moment of a log: its event stands in the log, behind a beginning that has its state
pub record IsMoment (log : List Event) (m : RootState × Event) : Type 0 where
  pub before : List Event
  pub behind : List Event
  pub log_is : log ≡ before ++ m.1 ∷ behind
  pub state_is : m.0 ≡ state_of before

-- each moment of a session is one of the log
abbrev pub MomentsAreOfLog : Type 0
MomentsAreOfLog = (id : ℕ) (log : List Event) → AllByRecursion (IsMoment log) (moments_by id log)

-- the moments of a longer log begin with those of the log
abbrev pub MomentsGrow : Type 0
MomentsGrow = (id : ℕ) (log more : List Event) → moments_by id (log ++ more) ≡ moments_by id log ++ filter (λ m. is_by id m.1.who) (moments_from (state_of log) more)

-- whether a deed with this answer drops all that its session has staged
abbrev pub is_clearing : Deed → Bool → Bool
is_clearing (Asked StageClear) done = done
is_clearing (Asked op) done = false
is_clearing (Edited edit) done = false

-- whether an event drops all that a session has staged
abbrev pub clears : ℕ → Event → Bool
clears id e = is_by id e.who && is_clearing e.deed (is_done e.answer)

-- bytes that a session keeps under a digest stay kept until it clears, whatever others do
abbrev pub KeptStays : Type 0
KeptStays =
    (log more : List Event) (id : ℕ) (digest : List ℕ) → is_some (kept_by (state_of log) id digest) ≡ true → list_any (clears id) more ≡ false
    → is_some (kept_by (state_of (log ++ more)) id digest) ≡ true
