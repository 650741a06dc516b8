-- What stamps name stays.
use Rattle.std.proofs.Common.{◌≡◌, ◌≢◌, ℕ, ◌<◌, Bool, List, [], ◌++◌, length, refl, ap, ◌∙◌, Some, arith, length-append}
use Rattle.std.specs.FinMap as map
use Rattle.std.proofs.lemmas.List.{get_or_append_left}
use Rattle.sha2.specs.Sha256.{sha256}
use Rattle.entry_tree.specs.Tree.{Names}
use Rattle.entry_tree.specs.declared.atom.Atom.TheVariants as atom
use Rattle.entry_tree.specs.declared.entry.Entry.{Entry}
use Rattle.entry_tree.specs.declared.entry.Entry.TheVariants.{Dir, File, Link, Other}
use Rattle.entry_tree.specs.declared.entry.Stamp.{Stamp}
use Rattle.roots_api.specs.Logs.{state_of}
use Rattle.roots_api.specs.States.{RootState, new_root, content_of, next_stamp}
use Rattle.roots_api.specs.Views.{atom_of}
use Rattle.roots_api.specs.declared.event.Event.{Event}
use Rattle.roots_api.proofs.Folds.{always, after_events-append}
use Rattle.roots_api.proofs.Ledgers.{AreNamed, events_grow, event_named, new_named}

ledger_longer : (log more : List Event) → (added : List (List ℕ)) × ((state_of (log ++ more)).ledger ≡ (state_of log).ledger ++ added)
ledger_longer log more =
    let grows = events_grow (state_of log) more in
    (grows.0, ap (λ (s : RootState). s.ledger) (after_events-append new_root log more) ∙ grows.1)

pub named : (log : List Event) (path : Names) (stamp : Stamp) (exec : Bool) → map.get (state_of log).tree path ≡ Some (File stamp exec) → stamp.0 < length (state_of log).ledger
named log = always AreNamed event_named new_root log new_named

pub contents_stay : (log more : List Event) (stamp : Stamp) → stamp.0 < length (state_of log).ledger
    → content_of (state_of (log ++ more)).ledger stamp ≡ content_of (state_of log).ledger stamp
contents_stay log more stamp h =
    let longer = ledger_longer log more in
    ap (λ (l : List (List ℕ)). content_of l stamp) longer.1 ∙ get_or_append_left (state_of log).ledger longer.0 [] stamp.0 h

pub atoms_stay : (log more : List Event) (path : Names) (entry : Entry) → map.get (state_of log).tree path ≡ Some entry
    → atom_of (state_of (log ++ more)).ledger entry ≡ atom_of (state_of log).ledger entry
atoms_stay log more path Dir at = refl
atoms_stay log more path (File stamp exec) at = ap (λ (c : List ℕ). atom.File (sha256 c) exec) (contents_stay log more stamp (named log path stamp exec at))
atoms_stay log more path (Link text) at = refl
atoms_stay log more path Other at = refl

pub new_is_new : (log more : List Event) (path : Names) (stamp : Stamp) (exec : Bool) → map.get (state_of log).tree path ≡ Some (File stamp exec)
    → stamp ≢ next_stamp (state_of (log ++ more))
new_is_new log more path stamp exec at e =
    let below = named log path stamp exec at in
    let longer = ledger_longer log more in
    let long = ap length longer.1 ∙ length-append (state_of log).ledger longer.0 in
    let same : stamp.0 ≡ length (state_of (log ++ more)).ledger = ap (λ (s : Stamp). s.0) e in
    omega arith
