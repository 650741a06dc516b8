-- What a link tells of the roots of its session, and what calls make of it.
use Rattle.std.specs.Prelude.{◌≡◌, ℕ, List, [], ◌∷◌, ◌++◌, Result, Ok, Err, MatchBool}
use Rattle.std.specs.declared.alloc.AllocError.{AllocError}
use Rattle.finite_maps.specs.Lists.{BeginsWith}
use Rattle.roots_api.specs.Answers.{is_full}
use Rattle.roots_api.specs.Logs.{IsLegal, state_of}
use Rattle.roots_api.specs.Told.{AnswersOn, call_event}
use Rattle.roots_api.specs.declared.answer.Answer.{Answer}
use Rattle.roots_api.specs.declared.event.Event.{Event}
use Rattle.roots_api.specs.declared.op.Op.{Op}
use Rattle.roots_api.specs.declared.who.Who.{Who}

-- What a link tells of a side: the events of its own calls there, the oldest first, and the root's content ledger as far as
-- the link has seen it. Events of others aren't in the list; their contents are in the ledger.
pub record SideTold : Type 0 where
  pub events : List Event
  pub ledger : List (List ℕ)

-- An answer that is logged: there is a legal log of the root on whose state it is the row's, or Failed. The log's ledger
-- begins with the one told before, and with the call's event it is the one told after.
pub record IsAnsweredAt (who : Who) (op : Op) (answer : Answer (List ℕ)) (old new : SideTold) : Type 0 where
  pub log : List Event
  pub legal : IsLegal log
  pub grew : BeginsWith (state_of log).ledger old.ledger
  pub row : AnswersOn (state_of log) who op answer
  pub longer : IsLegal (log ++ call_event who op answer ∷ [])
  pub ends : new.ledger ≡ (state_of (log ++ call_event who op answer ∷ [])).ledger
  pub events : new.events ≡ old.events ++ call_event who op answer ∷ []

-- one that isn't: no event is added, while the ledger may have grown by what others did
pub record IsUnlogged (old new : SideTold) : Type 0 where
  pub grew : BeginsWith new.ledger old.ledger
  pub events : new.events ≡ old.events

-- what a call makes of what is told of its side: Full and want of memory add no event
abbrev pub LinksOn : Who → Op → Result (Answer (List ℕ)) AllocError → SideTold → SideTold → Type 0
LinksOn who op (Err error) old new = IsUnlogged old new
LinksOn who op (Ok answer) old new = MatchBool (is_full answer) (IsUnlogged old new) (IsAnsweredAt who op answer old new)
