-- What each event keeps, every log keeps.
use Rattle.std.proofs.Common.{◌≡◌, List, [], ◌∷◌, ◌++◌, refl}
use Rattle.roots_api.specs.Logs.{IsLegalEvent, AreLegal, after_event, after_events}
use Rattle.roots_api.specs.States.{RootState}
use Rattle.roots_api.specs.declared.event.Event.{Event}

pub always : (P : RootState → Type 0) → ((s : RootState) (e : Event) → P s → P (after_event s e)) → (s : RootState) (log : List Event) → P s → P (after_events s log)
always P step s [] p = p
always P step s (e ∷ log) p = always P step (after_event s e) log (step s e p)

pub while_legal : (P : RootState → Type 0) → ((s : RootState) (e : Event) → IsLegalEvent s e → P s → P (after_event s e)) → (s : RootState) (log : List Event) → AreLegal s log → P s → P (after_events s log)
while_legal P step s [] l p = p
while_legal P step s (e ∷ log) l p = while_legal P step (after_event s e) log l.1 (step s e l.0 p)

-- events behind others
pub after_events-append : (s : RootState) (log more : List Event) → after_events s (log ++ more) ≡ after_events (after_events s log) more
after_events-append s [] more = refl
after_events-append s (e ∷ log) more = after_events-append (after_event s e) log more

pub legal_push : (s : RootState) (log : List Event) (e : Event) → AreLegal s log → IsLegalEvent (after_events s log) e → AreLegal s (log ++ e ∷ [])
legal_push s [] e l h = (h, tt)
legal_push s (d ∷ log) e l h = (l.0, legal_push (after_event s d) log e l.1 h)
