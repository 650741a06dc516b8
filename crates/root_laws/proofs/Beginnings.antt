-- Beginnings of logs, and the moments of a session.
use Rattle.std.proofs.Common.{◌≡◌, ℕ, Bool, true, false, cond, List, [], ◌∷◌, ◌++◌, refl, ap, subst, ◌∙◌, append_assoc}
use Rattle.std.proofs.Common.{map as list_map}
use Rattle.std.proofs.lemmas.List.Elements.{filter-append}
use Rattle.std.specs.List.{filter, AllByRecursion}
use Rattle.root_laws.specs.LogLaws.{is_by, events_by, moments_from, moments, moments_by, IsMoment}
use Rattle.roots_api.specs.Logs.{AreLegal, after_event, after_events, state_of}
use Rattle.roots_api.specs.States.{RootState, new_root}
use Rattle.roots_api.specs.declared.event.Event.{Event}
use Rattle.roots_api.proofs.Folds.{after_events-append}

pub legal_split : (s : RootState) (log more : List Event) → AreLegal s (log ++ more) → AreLegal s log × AreLegal (after_events s log) more
legal_split s [] more l = (tt, l)
legal_split s (e ∷ log) more l = let rest = legal_split (after_event s e) log more l.1 in ((l.0, rest.0), rest.1)

pub legal_join : (s : RootState) (log more : List Event) → AreLegal s log → AreLegal (after_events s log) more → AreLegal s (log ++ more)
legal_join s [] more a b = b
legal_join s (e ∷ log) more a b = (a.0, legal_join (after_event s e) log more a.1 b)

moments_append : (s : RootState) (log more : List Event) → moments_from s (log ++ more) ≡ moments_from s log ++ moments_from (after_events s log) more
moments_append s [] more = refl
moments_append s (e ∷ log) more = ap (λ (ms : List (RootState × Event)). (s, e) ∷ ms) (moments_append (after_event s e) log more)

pub moments_grow : (id : ℕ) (log more : List Event) → moments_by id (log ++ more) ≡ moments_by id log ++ filter (λ m. is_by id m.1.who) (moments_from (state_of log) more)
moments_grow id log more =
    ap (filter (λ (m : RootState × Event). is_by id m.1.who)) (moments_append new_root log more)
    ∙ filter-append (λ (m : RootState × Event). is_by id m.1.who) (moments log) (moments_from (state_of log) more)

of_events : (id : ℕ) (s : RootState) (log : List Event) → list_map (λ (m : RootState × Event). m.1) (filter (λ m. is_by id m.1.who) (moments_from s log)) ≡ events_by id log
of_events id s [] = refl
of_events id s (e ∷ log) =
    elim (is_by id e.who) as (λ b. list_map (λ (m : RootState × Event). m.1) (cond b ((s, e) ∷ filter (λ m. is_by id m.1.who) (moments_from (after_event s e) log)) (filter (λ m. is_by id m.1.who) (moments_from (after_event s e) log)))
    ≡ cond b (e ∷ events_by id log) (events_by id log)) [
      | true ↦ ap (λ (es : List Event). e ∷ es) (of_events id (after_event s e) log)
      | false ↦ of_events id (after_event s e) log
    ]

pub moments_are_of_events : (id : ℕ) (log : List Event) → list_map (λ (m : RootState × Event). m.1) (moments_by id log) ≡ events_by id log
moments_are_of_events id log = of_events id new_root log

moments_at : (before behind : List Event) → AllByRecursion (IsMoment (before ++ behind)) (moments_from (state_of before) behind)
moments_at before [] = tt
moments_at before (e ∷ behind) =
    let longer : List Event = before ++ e ∷ [] in
    let rest : AllByRecursion (IsMoment (longer ++ behind)) (moments_from (state_of longer) behind) = moments_at longer behind in
    let here : AllByRecursion (IsMoment (before ++ e ∷ behind)) (moments_from (state_of longer) behind) =
    subst (λ (l : List Event). AllByRecursion (IsMoment l) (moments_from (state_of longer) behind)) (append_assoc before (e ∷ []) behind) rest in (
      record { before = before; behind = behind; log_is = refl; state_is = refl },
      subst (λ (s : RootState). AllByRecursion (IsMoment (before ++ e ∷ behind)) (moments_from s behind)) (after_events-append new_root before (e ∷ [])) here,
    )

all_filtered : {X : Type 0} (P : X → Type 0) (test : X → Bool) (xs : List X) → AllByRecursion P xs → AllByRecursion P (filter test xs)
all_filtered P test [] h = tt
all_filtered P test (x ∷ xs) h =
    elim (test x) as (λ b. AllByRecursion P (cond b (x ∷ filter test xs) (filter test xs))) [
      | true ↦ (h.0, all_filtered P test xs h.1)
      | false ↦ all_filtered P test xs h.1
    ]

pub moments_are_of_log : (id : ℕ) (log : List Event) → AllByRecursion (IsMoment log) (moments_by id log)
moments_are_of_log id log = all_filtered (IsMoment log) (λ (m : RootState × Event). is_by id m.1.who) (moments log) (moments_at [] log)
