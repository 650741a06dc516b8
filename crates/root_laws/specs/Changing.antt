-- What the five changing operations change: one path.
use Rattle.std.specs.Prelude.{◌≡◌, ◌≢◌, ℕ, Bool, true, List, Option, Some, None}
use Rattle.std.specs.FinMap as map
use Rattle.entry_tree.specs.Tree.{Names}
use Rattle.entry_tree.specs.declared.atom.Atom.TheVariants as atom
use Rattle.entry_tree.specs.declared.entry.Entry.{Entry}
use Rattle.entry_tree.specs.declared.entry.Entry.TheVariants.{Dir, File, Link}
use Rattle.roots_api.specs.Answers.{is_done}
use Rattle.roots_api.specs.Logs.{IsLegal, IsLegalCall, state_of}
use Rattle.roots_api.specs.States.{RootState, next_stamp, with_bit}
use Rattle.roots_api.specs.Steps.{after}
use Rattle.roots_api.specs.Views.{atom_of}
use Rattle.roots_api.specs.declared.answer.Answer.{Answer}
use Rattle.roots_api.specs.declared.event.Event.{Event}
use Rattle.roots_api.specs.declared.event.Span.{Span}
use Rattle.roots_api.specs.declared.op.Op.{Op}
use Rattle.roots_api.specs.declared.op.Op.TheVariants.{Place, MakeDir, MakeLink, Remove, SetExec}

-- the path of a changing operation
abbrev pub changes_at : Op → Option Names
changes_at (Place path digest exec expected) = Some path
changes_at (MakeDir path) = Some path
changes_at (MakeLink path text expected) = Some path
changes_at (Remove path expected) = Some path
changes_at (SetExec path expected on) = Some path
changes_at op = None

-- what a changing operation that is done leaves at its path: a file of a new stamp, a folder, a link, nothing, or the file
-- that was expected with the bit asked for
abbrev pub leaves_there : RootState → Op → Option Entry
leaves_there s (Place path digest exec expected) = Some (File (next_stamp s) exec)
leaves_there s (MakeDir path) = Some Dir
leaves_there s (MakeLink path text expected) = Some (Link text)
leaves_there s (Remove path expected) = None
leaves_there s (SetExec path expected on) = Some (with_bit on expected)
leaves_there s op = None

-- what a changing operation that is done had found at its path: what it expected there
abbrev pub found_there : Op → Option Entry
found_there (Place path digest exec expected) = expected
found_there (MakeDir path) = None
found_there (MakeLink path text expected) = expected
found_there (Remove path expected) = Some expected
found_there (SetExec path expected on) = Some expected
found_there op = None

-- between two states one path alone changed, from what was found there to what is left there
pub record ChangesOne (path : Names) (found left : Option Entry) (old new : RootState) : Type 0 where
  pub before : map.get old.tree path ≡ found
  pub behind : map.get new.tree path ≡ left
  pub others : (other : Names) → other ≢ path → map.get new.tree other ≡ map.get old.tree other

-- behind a legal log, a changing operation that is done changes its path alone
abbrev pub OnePath : Type 0
OnePath =
    (log : List Event) → IsLegal log → (id : ℕ) (op : Op) (answer : Answer Span) → IsLegalCall (state_of log) id op answer → is_done answer ≡ true
    → (path : Names) → changes_at op ≡ Some path → ChangesOne path (found_there op) (leaves_there (state_of log) op) (state_of log) (after (state_of log) id op answer)

-- a placed content has the digest that was asked for, and so has the atom that is left
abbrev pub PlacesDigest : Type 0
PlacesDigest =
    (log : List Event) → IsLegal log → (id : ℕ) (path : Names) (digest : List ℕ) (exec : Bool) (expected : Option Entry) (answer : Answer Span)
    → IsLegalCall (state_of log) id (Place path digest exec expected) answer → is_done answer ≡ true
    → atom_of (after (state_of log) id (Place path digest exec expected) answer).ledger (File (next_stamp (state_of log)) exec) ≡ atom.File digest exec
