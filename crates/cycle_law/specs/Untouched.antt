-- Which cycles nobody and nothing disturbed, by the whole logs of both roots.
use Rattle.std.specs.Prelude.{ℕ, Bool, true, false, not, ◌&&◌, ◌==◌, List, [], ◌∷◌, ◌++◌, if◌then◌else◌}
use Rattle.std.specs.List.{filter, list_any}
use Rattle.sha2.specs.Sha256.{sha256}
use Rattle.entry_tree.specs.declared.side.Side.{Side}
use Rattle.entry_tree.specs.declared.side.Side.TheVariants.{Alpha, Beta}
use Rattle.frame_text.specs.declared.payload.Payload.{Payload}
use Rattle.roots_api.specs.Answers.{is_failed}
use Rattle.roots_api.specs.Logs.{state_of}
use Rattle.roots_api.specs.States.{RootState, content_of}
use Rattle.roots_api.specs.Steps.{is_changing}
use Rattle.roots_api.specs.declared.event.Deed.{Deed}
use Rattle.roots_api.specs.declared.event.Deed.TheVariants.{Asked, Edited}
use Rattle.roots_api.specs.declared.event.Event.{Event}
use Rattle.roots_api.specs.declared.who.Who.{Who}
use Rattle.roots_api.specs.declared.who.Who.TheVariants.{Editor, Session as OfSession}
use Rattle.cycle_law.specs.Cycles.{Cycle, Ground, SideLog}
use Rattle.cycle_law.specs.Outcomes.{has_any}
use Rattle.cycle_law.specs.Plans.{ground_of}
use Rattle.cycle_law.specs.Unlogged.{Unlogged}

-- The whole logs of the two roots of a session, the oldest events first, by whomever; and the frames of the session.
pub record WholeLogs : Type 0 where
  pub alpha : List Event
  pub beta : List Event
  pub frames : List Payload

abbrev pub whole_log : WholeLogs → Side → List Event
whole_log logs Alpha = logs.alpha
whole_log logs Beta = logs.beta

-- ---- the part of a session

-- whether a session made an event
abbrev pub is_of_session : ℕ → Who → Bool
is_of_session id Editor = false
is_of_session id (OfSession session run cycle) = session == id

-- what a root has of a session: the session's events, and the digests of all contents
abbrev pub session_log : ℕ → List Event → SideLog
session_log id log = record { events = filter (λ (e : Event). is_of_session id e.who) log; digest = λ stamp. sha256 (content_of (state_of log).ledger stamp) }

-- what a cycle of a session stood on
abbrev pub whole_ground : ℕ → WholeLogs → Cycle → Ground
whole_ground id logs c = ground_of (record { alpha = session_log id logs.alpha; beta = session_log id logs.beta; frames = logs.frames }) c

-- ---- the part of a cycle

-- whether an event can change a tree: an edit, or one of the five operations
abbrev pub may_change : Deed → Bool
may_change (Asked op) = is_changing op
may_change (Edited edit) = true

module _ (id : ℕ) (c : Cycle) where
  -- whether the cycle made an event
  abbrev pub is_own : Who → Bool
  is_own Editor = false
  is_own (OfSession session run cycle) = (session == id) && ((run == c.run) && (cycle == c.number))

  -- the events before the first one of the cycle, and the others
  abbrev pub before : List Event → List Event
  before [] = []
  before (e ∷ es) = if is_own e.who then [] else e ∷ before es

  abbrev pub from_first : List Event → List Event
  from_first [] = []
  from_first (e ∷ es) = if is_own e.who then e ∷ es else from_first es

  -- the events up to the last one of the cycle
  abbrev pub up_to_last : List Event → List Event
  up_to_last [] = []
  up_to_last (e ∷ es) = if list_any (λ (x : Event). is_own x.who) (e ∷ es) then e ∷ up_to_last es else []

  -- all events on a root from the first one of the cycle to its last one there
  abbrev pub in_course : List Event → List Event
  in_course log = up_to_last (from_first log)

  -- the root's state at the cycle's start, and at its end
  abbrev pub state_before : List Event → RootState
  state_before log = state_of (before log)

  abbrev pub state_behind : List Event → RootState
  state_behind log = state_of (before log ++ in_course log)

  -- whether an event in the course of the cycle disturbs it: another party may change the tree by it, or it is one of the cycle that failed
  abbrev pub is_disturbing : Event → Bool
  is_disturbing e = if is_own e.who then is_failed e.answer else may_change e.deed

  abbrev pub is_quiet_on : List Event → Bool
  is_quiet_on log = not (list_any is_disturbing (in_course log))

  -- AN UNTOUCHED CYCLE: on neither root anything disturbed it, none of its operations met Full, no append of it failed, it never met want of memory, and
  -- no turn of it found Stop
  abbrev pub is_untouched : WholeLogs → Unlogged → Bool
  is_untouched logs u =
      is_quiet_on logs.alpha && (is_quiet_on logs.beta && (not (has_any u.alpha.full) && (not (has_any u.beta.full)
      && (not u.append_failed && (not u.short && not u.stopped)))))
