use Rattle.std.proofs.Common.{sym, subst}
use Rattle.roots_api.specs.Logs.{state_of}
use Rattle.roots_api.specs.States.{RootState, new_root}
use Rattle.roots_api.proofs.Folds.{always, after_events-append}
use Rattle.roots_api.proofs.Ledgers.{Grows, AreNamed, events_grow, event_named, new_named}
use Rattle.roots_api.proofs.laws.stamps_name_contents.Goals as goal

pub returns-clause-grows : goal.returns-clause-grows
returns-clause-grows c log more =
    let P : RootState → Type 0 = λ s. Grows (state_of log) s in
    subst P (sym (after_events-append new_root log more)) (events_grow (state_of log) more)

pub returns-clause-named : goal.returns-clause-named
returns-clause-named c log = always AreNamed event_named new_root log new_named
