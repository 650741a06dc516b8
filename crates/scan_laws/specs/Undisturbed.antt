-- A scan of a root on which nothing changes and no call fails.
use Rattle.std.specs.Prelude.{◌≡◌, ◌<◌, ◌≤◌, ◌&&◌, ℕ, Bool, List, [], ◌∷◌, length, filter, Option, Some, None, ⊤}
use Rattle.std.specs.FinMap as map
use Rattle.sha2.specs.Sha256.{sha256}
use Rattle.entry_tree.specs.Entry.{is_dir}
use Rattle.entry_tree.specs.Tree.{Names, ByPath, IsClosed, is_below}
use Rattle.entry_tree.specs.declared.entry.Entry.TheVariants.{File}
use Rattle.entry_tree.specs.declared.entry.Stamp.{Stamp}
use Rattle.ignore_glob.specs.Grammar.{Meaning}
use Rattle.roots_api.specs.States.{RootState, content_of}
use Rattle.roots_api.specs.Steps.{answer_of}
use Rattle.roots_api.specs.declared.op.Op.{Op}
use Rattle.roots_api.specs.declared.limits.TheConstants.{MAX_FETCH}
use Rattle.scan_cache.specs.Cache.{digest_for}
use Rattle.scan_cache.specs.declared.line.Line.{Line}
use Rattle.scan_core.specs.Scan.{ScanTold, state_of, asked, ends_by}
use Rattle.scan_core.specs.declared.scan_end.ScanEnd.{ScanEnd}
use Rattle.scan_core.specs.declared.scan_end.ScanEnd.TheVariants.{TooMany}
use Rattle.scan_laws.specs.Bounds.{heard_by}
use Rattle.scan_laws.specs.Look.{is_reached, look_at}
use Rattle.scan_laws.specs.Meeting.{IsScanned}
use Rattle.scan_laws.specs.ScanLists.{rows_heard}
use Rattle.scan_laws.specs.Seen.{Heard}

-- each answer is that of the row on one state
abbrev pub AnsweredOn : RootState → ℕ → List (Heard (List ℕ)) → Type 0
AnsweredOn s id [] = ⊤
AnsweredOn s id (h ∷ hs) = (h.answer ≡ answer_of s id h.op) × AnsweredOn s id hs

-- a content and its digest, where a file may have so many bytes
pub record IsDigestOf (size : ℕ) (content digest : List ℕ) : Type 0 where
  pub is : digest ≡ sha256 content
  pub fits : length content ≤ size

-- each line of a cache for the path and the stamp of a file has the digest of the stamp's content, and a file may have so many bytes
abbrev pub LinesAreOf : RootState → ℕ → ByPath Line → Type 0
LinesAreOf s size cache =
    (p : Names) (stamp : Stamp) (exec : Bool) (digest : List ℕ) → map.get s.tree p ≡ Some (File stamp exec) → digest_for cache p stamp ≡ Some digest
    → IsDigestOf size (content_of s.ledger stamp) digest

-- a root in a state on which nothing changes, and what the cache knew of it
pub record IsUndisturbed (m : ScanTold) (before : ByPath Line) (s : RootState) (id : ℕ) : Type 0 where
  pub closed : IsClosed is_dir s.tree
  pub answered : AnsweredOn s id (heard_by m)
  pub lines : LinesAreOf s m.size before
  pub limit : m.size ≤ MAX_FETCH

-- A whole scan of a root on which nothing changes sees the root's look.
abbrev pub UndisturbedSeesLook : Type 0
UndisturbedSeesLook =
    (m : ScanTold) (rules : List Meaning) (before after : ByPath Line) → IsScanned m rules before after → (s : RootState) (id : ℕ) → IsUndisturbed m before s id
    → asked (state_of m) ≡ None → (q : Names) → map.get (state_of m).board.seen q ≡ look_at s rules m.size q

-- how many rows a scan of a state lists: the entries below the root that stand in folders which the rules don't ignore
abbrev pub look_rows : RootState → List Meaning → ℕ
look_rows s rules = length (filter (λ e. is_below e.0 [] && is_reached rules e.0) (map.entries s.tree))

-- A whole scan listed just these.
abbrev pub WholeListsLookRows : Type 0
WholeListsLookRows =
    (m : ScanTold) (rules : List Meaning) (before after : ByPath Line) → IsScanned m rules before after → (s : RootState) (id : ℕ) → IsUndisturbed m before s id
    → asked (state_of m) ≡ None → rows_heard (heard_by m) ≡ look_rows s rules

-- the answer of a state to what is asked next, if anything is, ends a scan
abbrev pub EndsOn : ScanTold → RootState → ℕ → Option Op → ScanEnd → Type 0
EndsOn m s id None end = ⊥
EndsOn m s id (Some op) end = ends_by m.entries (state_of m) (answer_of s id op) ≡ Some end

-- A scan ends on a state for one reason alone: it has more such rows than a side may have.
abbrev pub EndsByRowsAlone : Type 0
EndsByRowsAlone =
    (m : ScanTold) (rules : List Meaning) (before after : ByPath Line) → IsScanned m rules before after → (s : RootState) (id : ℕ) → IsUndisturbed m before s id
    → (end : ScanEnd) → EndsOn m s id (asked (state_of m)) end → (end ≡ TooMany) × (m.entries < look_rows s rules)
