-- A scan: what it asks next, when it ends, and what it has seen, by what it was told.
use Rattle.std.specs.Prelude.{◌≡◌, ◌⊎◌, ℕ, ◌+◌, Bool, cond, List, [], ◌∷◌, ◌++◌, length, nat_lt, Option, Some, None, Result, Ok, Err, ⊤}
use Rattle.sha2.specs.Sha256.{sha256}
use Rattle.entry_tree.specs.Tree.{Names, ByPath}
use Rattle.entry_tree.specs.declared.atom.Atom.TheVariants as atom
use Rattle.entry_tree.specs.declared.entry.Stamp.{Stamp}
use Rattle.entry_tree.specs.declared.problem_kind.ProblemKind.{ProblemKind}
use Rattle.entry_tree.specs.declared.problem_kind.ProblemKind.TheVariants as problem
use Rattle.ignore_glob.specs.Grammar.{Meaning}
use Rattle.roots_api.specs.Answers.{IsAnswerTo}
use Rattle.roots_api.specs.declared.answer.Answer.{Answer}
use Rattle.roots_api.specs.declared.answer.Answer.TheVariants.{Listed, Held, Piece, Changed, TooLarge, Full, Failed}
use Rattle.roots_api.specs.declared.op.Op.{Op}
use Rattle.roots_api.specs.declared.op.Op.TheVariants.{List as OpList, Fetch}
use Rattle.scan_cache.specs.Cache.{with_line}
use Rattle.scan_cache.specs.declared.line.Line.{Line}
use Rattle.scan_core.specs.Board.{new_board, shows, shows_file, placed, with_rows, counts, advanced}
use Rattle.scan_core.specs.Told.{Told}
use Rattle.scan_core.specs.declared.board.Board.{Board}
use Rattle.scan_core.specs.declared.scan_end.ScanEnd.{ScanEnd}
use Rattle.scan_core.specs.declared.scan_end.ScanEnd.TheVariants.{TooMany, Fault, RootFull, Memory}
use Rattle.scan_core.specs.declared.wanted.Next.{Next}
use Rattle.scan_core.specs.declared.wanted.Wanted.{Wanted}
use Rattle.scan_core.specs.declared.wanted.Wanted.TheVariants.{Names as WantedNames, Content}

-- A scan: how many rows a side may have, how many bytes a file, and what the scan was told, the oldest answer first.
pub record ScanTold : Type 0 where
  pub entries : ℕ
  pub size : ℕ
  pub told : List Told

-- a scan that was told nothing
abbrev pub new_scan : ℕ → ℕ → ScanTold
new_scan entries size = record { entries = entries; size = size; told = [] }

-- What a scan comes to: what it has seen and still asks for, and the bytes that were handed in so far of the file whose content is
-- asked for next.
pub record ScanState : Type 0 where
  pub board : Board
  pub begun : List ℕ

abbrev pub new_state : ScanState
new_state = record { board = new_board; begun = [] }

-- ---- what is asked next

abbrev pub asked_at : ℕ → Names → Wanted → Op
asked_at offset path WantedNames = OpList path
asked_at offset path (Content stamp exec) = Fetch path stamp offset

-- the operation that asks for what comes next; of a file so many bytes were handed in
abbrev pub asked_for : ℕ → Option Next → Option Op
asked_for offset None = None
asked_for offset (Some next) = Some (asked_at offset next.path next.wanted)

-- the operation that a scan asks next; none where it is whole
abbrev pub asked : ScanState → Option Op
asked s = asked_for (length s.begun) s.board.next

-- ---- what is made of an answer

-- what is made of the answer to a List of a path: a folder is seen there, and its rows are gone through; or what is held there
-- instead is gone through as a row would be
abbrev pub after_list : List Meaning → ByPath Line → Board → Names → Answer (List ℕ) → Board
after_list rules cache b path (Listed rows) = advanced (with_rows rules cache path (counts (shows b path atom.Dir) (length rows)) rows)
after_list rules cache b path (Held None) = advanced b
after_list rules cache b path (Held (Some entry)) = advanced (placed rules cache b path entry)
after_list rules cache b path answer = b

-- no more is asked of a file
abbrev pub file_done : Board → ScanState
file_done b = record { board = advanced b; begun = [] }

-- the content of a file isn't seen
abbrev pub with_problem : Board → Names → ProblemKind → ScanState
with_problem b path kind = file_done (shows b path (atom.Problem kind))

module _ (size : ℕ) (b : Board) (path : Names) (stamp : Stamp) (exec : Bool) where
  -- what is made of a file of which these bytes were handed in: more bytes than `size` are too many; with the last piece it is
  -- seen by their digest; and else further pieces are asked for
  abbrev pub after_piece : List ℕ → Bool → ScanState
  after_piece bytes last =
      cond (nat_lt size (length bytes)) (with_problem b path problem.TooLarge)
      (cond last (file_done (shows_file b path stamp exec (sha256 bytes))) (record { board = b; begun = bytes }))

  -- what is made of the answer to a Fetch, where these bytes were handed in before
  abbrev pub after_fetch : List ℕ → Answer (List ℕ) → ScanState
  after_fetch begun (Piece bytes last) = after_piece (begun ++ bytes) last
  after_fetch begun (Changed found) = with_problem b path problem.Changed
  after_fetch begun (TooLarge bytes) = with_problem b path problem.TooLarge
  after_fetch begun Failed = with_problem b path problem.Failed
  after_fetch begun answer = record { board = b; begun = begun }

abbrev pub after_wanted : ℕ → ScanState → Told → Names → Wanted → ScanState
after_wanted size s t path WantedNames = record { board = after_list t.rules t.cache s.board path t.answer; begun = s.begun }
after_wanted size s t path (Content stamp exec) = after_fetch size s.board path stamp exec s.begun t.answer

-- what is made of an answer, by what was asked
abbrev pub after_asked : ℕ → ScanState → Told → Option Next → ScanState
after_asked size s t None = s
after_asked size s t (Some next) = after_wanted size s t next.path next.wanted

-- what is made of an answer that a scan takes
abbrev pub after_told : ℕ → ScanState → Told → ScanState
after_told size s t = after_asked size s t s.board.next

-- of some answers, the oldest first
abbrev pub after_all : ℕ → ScanState → List Told → ScanState
after_all size s [] = s
after_all size s (t ∷ ts) = after_all size (after_told size s t) ts

-- what a scan comes to
abbrev pub state_of : ScanTold → ScanState
state_of m = after_all m.size new_state m.told

-- ---- when it ends

-- whether an answer ends a scan, and why
abbrev pub ends_list : ℕ → ℕ → Answer (List ℕ) → Option ScanEnd
ends_list entries rows (Listed more) = cond (nat_lt entries (rows + length more)) (Some TooMany) None
ends_list entries rows Failed = Some Fault
ends_list entries rows (Full room) = Some (RootFull room)
ends_list entries rows answer = None

abbrev pub ends_fetch : Answer (List ℕ) → Option ScanEnd
ends_fetch (Full room) = Some (RootFull room)
ends_fetch answer = None

abbrev pub ends_wanted : ℕ → ℕ → Answer (List ℕ) → Wanted → Option ScanEnd
ends_wanted entries rows answer WantedNames = ends_list entries rows answer
ends_wanted entries rows answer (Content stamp exec) = ends_fetch answer

-- the same by what was asked, where so many rows were listed before
abbrev pub ends_asked : ℕ → ℕ → Answer (List ℕ) → Option Next → Option ScanEnd
ends_asked entries rows answer None = None
ends_asked entries rows answer (Some next) = ends_wanted entries rows answer next.wanted

-- why an answer ends a scan, if it does: the List of a folder lists rows past the limit or fails, or the root is full
abbrev pub ends_by : ℕ → ScanState → Answer (List ℕ) → Option ScanEnd
ends_by entries s answer = ends_asked entries s.board.rows answer s.board.next

-- ---- what the cache learns

abbrev pub learns_piece : ℕ → ByPath Line → Names → Stamp → List ℕ → Bool → ByPath Line
learns_piece size cache path stamp bytes last = cond (nat_lt size (length bytes)) cache (cond last (with_line cache path stamp (sha256 bytes)) cache)

abbrev pub learns_fetch : ℕ → ByPath Line → Names → Stamp → List ℕ → Answer (List ℕ) → ByPath Line
learns_fetch size cache path stamp begun (Piece bytes last) = learns_piece size cache path stamp (begun ++ bytes) last
learns_fetch size cache path stamp begun answer = cache

abbrev pub learns_wanted : ℕ → List ℕ → Told → Names → Wanted → ByPath Line
learns_wanted size begun t path WantedNames = t.cache
learns_wanted size begun t path (Content stamp exec) = learns_fetch size t.cache path stamp begun t.answer

abbrev pub learns_asked : ℕ → List ℕ → Told → Option Next → ByPath Line
learns_asked size begun t None = t.cache
learns_asked size begun t (Some next) = learns_wanted size begun t next.path next.wanted

-- the cache once an answer was taken: with the last piece of a file it learns the file's digest
abbrev pub learns : ℕ → ScanState → Told → ByPath Line
learns size s t = learns_asked size s.begun t s.board.next

-- ---- what a take comes to

-- this is answered to what is asked, by its row
abbrev pub IsAnswered : Option Op → Answer (List ℕ) → Type 0
IsAnswered None answer = ⊥
IsAnswered (Some op) answer = IsAnswerTo op answer

-- each answer is one to what is asked there, by its row, and ends nothing
abbrev pub AreTaken : ℕ → ℕ → ScanState → List Told → Type 0
AreTaken entries size s [] = ⊤
AreTaken entries size s (t ∷ ts) = IsAnswered (asked s) t.answer × (ends_by entries s t.answer ≡ None) × AreTaken entries size (after_told size s t) ts

-- a scan can have been told this
abbrev pub IsTaken : ScanTold → Type 0
IsTaken m = AreTaken m.entries m.size new_state m.told

-- the scan with one answer more
abbrev pub with_told : ScanTold → Told → ScanTold
with_told m t = record { entries = m.entries; size = m.size; told = m.told ++ t ∷ [] }

-- What a take comes to. An answer that doesn't end the scan is told, and the cache learns. Else, or without memory, the scan begins
-- anew, and the cache stays.
abbrev pub Takes : ScanTold → Told → Result Unit ScanEnd → ScanTold → ByPath Line → Type 0
Takes m t (Ok done) new cache = (ends_by m.entries (state_of m) t.answer ≡ None) × (new ≡ with_told m t) × (cache ≡ learns m.size (state_of m) t)
Takes m t (Err end) new cache = ((end ≡ Memory) ⊎ (ends_by m.entries (state_of m) t.answer ≡ Some end)) × (new ≡ new_scan m.entries m.size) × (cache ≡ t.cache)
