-- What stamps name, in a log and in each longer one.
use Rattle.std.specs.Prelude.{◌≡◌, ◌≢◌, ◌<◌, Bool, List, ◌++◌, length, Some}
use Rattle.std.specs.FinMap as map
use Rattle.entry_tree.specs.Tree.{Names}
use Rattle.entry_tree.specs.declared.entry.Entry.{Entry}
use Rattle.entry_tree.specs.declared.entry.Entry.TheVariants.{File}
use Rattle.entry_tree.specs.declared.entry.Stamp.{Stamp}
use Rattle.roots_api.specs.Logs.{state_of}
use Rattle.roots_api.specs.States.{content_of, next_stamp}
use Rattle.roots_api.specs.Views.{atom_of}
use Rattle.roots_api.specs.declared.event.Event.{Event}

-- a stamp that names a content names it in every longer log
abbrev pub StampsKeepContents : Type 0
StampsKeepContents =
    (log more : List Event) (stamp : Stamp) → stamp.0 < length (state_of log).ledger
    → content_of (state_of (log ++ more)).ledger stamp ≡ content_of (state_of log).ledger stamp

-- an entry that a root held has the same atom in every longer log
abbrev pub AtomsStay : Type 0
AtomsStay =
    (log more : List Event) (path : Names) (entry : Entry) → map.get (state_of log).tree path ≡ Some entry
    → atom_of (state_of (log ++ more)).ledger entry ≡ atom_of (state_of log).ledger entry

-- a new stamp stood nowhere before
abbrev pub NewStampsAreNew : Type 0
NewStampsAreNew =
    (log more : List Event) (path : Names) (stamp : Stamp) (exec : Bool) → map.get (state_of log).tree path ≡ Some (File stamp exec)
    → stamp ≢ next_stamp (state_of (log ++ more))
