-- What every state, every step and every log keeps to.
use Rattle.std.specs.Prelude.{◌≡◌, ◌≢◌, ℕ, ◌<◌, Bool, true, false, List, ◌++◌, length, Option, Some, None, is_some}
use Rattle.std.specs.FinMap as map
use Rattle.sha2.specs.Sha256.{sha256}
use Rattle.sync_path.specs.Path.{IsPath}
use Rattle.entry_tree.specs.Entry.{is_dir}
use Rattle.entry_tree.specs.Tree.{Names, ByPath, IsClosed, has_below}
use Rattle.entry_tree.specs.declared.entry.Entry.{Entry}
use Rattle.entry_tree.specs.declared.entry.Entry.TheVariants.{File}
use Rattle.entry_tree.specs.declared.entry.Stamp.{Stamp}
use Rattle.roots_api.specs.Answers.{is_done, IsAnswerTo}
use Rattle.roots_api.specs.Edits.{edited}
use Rattle.roots_api.specs.Logs.{IsLegal, state_of}
use Rattle.roots_api.specs.States.{RootState, nothing_staged, staged_by, kept_by, next_stamp, missing_parent}
use Rattle.roots_api.specs.Steps.{answer_of, done, is_changing, after}
use Rattle.roots_api.specs.declared.answer.Answer.{Answer}
use Rattle.roots_api.specs.declared.answer.Answer.TheVariants.{Done, Failed}
use Rattle.roots_api.specs.declared.edit.Edit.{Edit}
use Rattle.roots_api.specs.declared.event.Event.{Event}
use Rattle.roots_api.specs.declared.op.Op.{Op}
use Rattle.roots_api.specs.declared.op.Op.TheVariants.{StageClear, Place, MakeDir, MakeLink, Remove, SetExec}

-- an operation that isn't done leaves the tree and the ledger
abbrev pub UndoneLeavesTree : Type 0
UndoneLeavesTree =
    (s : RootState) (id : ℕ) (op : Op) (answer : Answer (List ℕ)) → is_done answer ≡ false
    → ((after s id op answer).tree ≡ s.tree) × ((after s id op answer).ledger ≡ s.ledger)

-- one that isn't among the five that change a tree leaves them, whatever it answers
abbrev pub OthersLeaveTree : Type 0
OthersLeaveTree =
    (s : RootState) (id : ℕ) (op : Op) (answer : Answer (List ℕ)) → is_changing op ≡ false
    → ((after s id op answer).tree ≡ s.tree) × ((after s id op answer).ledger ≡ s.ledger)

-- one that failed leaves all
abbrev pub FailedLeavesAll : Type 0
FailedLeavesAll = (s : RootState) (id : ℕ) (op : Op) (answer : Answer (List ℕ)) → answer ≡ Failed → after s id op answer ≡ s

-- what holds where a file is placed: its parent is a folder or it is the root, what is expected stands there, stamp
-- included, and the session keeps bytes under the digest
pub record MayPlace (s : RootState) (id : ℕ) (path : Names) (digest : List ℕ) (expected : Option Entry) : Type 0 where
  pub parent : missing_parent s.tree path ≡ None
  pub there : map.get s.tree path ≡ expected
  pub kept : is_some (kept_by s id digest) ≡ true

-- what holds where a folder or a link is made
pub record MayMake (s : RootState) (path : Names) (expected : Option Entry) : Type 0 where
  pub parent : missing_parent s.tree path ≡ None
  pub there : map.get s.tree path ≡ expected

-- what holds where something is taken away
pub record MayRemove (s : RootState) (path : Names) (expected : Entry) : Type 0 where
  pub there : map.get s.tree path ≡ Some expected
  pub empty : is_dir expected ≡ true → has_below s.tree path ≡ false

abbrev pub PlacesWhereExpected : Type 0
PlacesWhereExpected =
    (s : RootState) (id : ℕ) (path : Names) (digest : List ℕ) (exec : Bool) (expected : Option Entry) (stamp : Option Stamp)
    → answer_of s id (Place path digest exec expected) ≡ Done stamp → MayPlace s id path digest expected × (stamp ≡ Some (next_stamp s))

abbrev pub MakesDirWhereNothing : Type 0
MakesDirWhereNothing =
    (s : RootState) (id : ℕ) (path : Names) (stamp : Option Stamp) → answer_of s id (MakeDir path) ≡ Done stamp → MayMake s path None

abbrev pub MakesLinkWhereExpected : Type 0
MakesLinkWhereExpected =
    (s : RootState) (id : ℕ) (path : Names) (text : List ℕ) (expected : Option Entry) (stamp : Option Stamp)
    → answer_of s id (MakeLink path text expected) ≡ Done stamp → MayMake s path expected

abbrev pub RemovesWhereExpected : Type 0
RemovesWhereExpected =
    (s : RootState) (id : ℕ) (path : Names) (expected : Entry) (stamp : Option Stamp)
    → answer_of s id (Remove path expected) ≡ Done stamp → MayRemove s path expected

abbrev pub SetsExecWhereExpected : Type 0
SetsExecWhereExpected =
    (s : RootState) (id : ℕ) (path : Names) (expected : Entry) (on : Bool) (stamp : Option Stamp)
    → answer_of s id (SetExec path expected on) ≡ Done stamp → map.get s.tree path ≡ Some expected

-- where the log is legal, no operation is answered outside its row
abbrev pub AnswersInRow : Type 0
AnswersInRow = (log : List Event) → IsLegal log → (id : ℕ) (op : Op) → IsAnswerTo op (answer_of (state_of log) id op)

-- what a session stages, no other session sees
abbrev pub StagesApart : Type 0
StagesApart =
    (s : RootState) (id other : ℕ) (op : Op) (answer : Answer (List ℕ)) → id ≢ other
    → staged_by (after s id op answer) other ≡ staged_by s other

-- an editor leaves what is staged
abbrev pub EditsLeaveStaging : Type 0
EditsLeaveStaging = (s : RootState) (edit : Edit) → (edited s edit).staging ≡ s.staging

-- once it is cleared, a session has staged nothing
abbrev pub ClearsAll : Type 0
ClearsAll = (s : RootState) (id : ℕ) → staged_by (done s id StageClear) id ≡ nothing_staged

-- the ledger only grows, at its end
abbrev pub LedgerGrows : Type 0
LedgerGrows =
    (log more : List Event) → (added : List (List ℕ)) × ((state_of (log ++ more)).ledger ≡ (state_of log).ledger ++ added)

-- each stamp in a tree names a content of the ledger
abbrev pub StampsName : Type 0
StampsName =
    (log : List Event) (path : Names) (stamp : Stamp) (exec : Bool)
    → map.get (state_of log).tree path ≡ Some (File stamp exec) → stamp.0 < length (state_of log).ledger

-- the tree of a legal log is closed under parents
abbrev pub TreesAreClosed : Type 0
TreesAreClosed = (log : List Event) → IsLegal log → IsClosed is_dir (state_of log).tree

-- and it holds something only at paths
abbrev pub HoldsPaths : ByPath Entry → Type 0
HoldsPaths tree = (path : Names) → is_some (map.get tree path) ≡ true → IsPath path

abbrev pub TreesHoldPaths : Type 0
TreesHoldPaths = (log : List Event) → IsLegal log → HoldsPaths (state_of log).tree

-- in a legal log, bytes are kept under their own digest alone
abbrev pub KeepsByDigest : Type 0
KeepsByDigest =
    (log : List Event) → IsLegal log → (id : ℕ) (digest bytes : List ℕ)
    → kept_by (state_of log) id digest ≡ Some bytes → sha256 bytes ≡ digest
