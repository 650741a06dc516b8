-- What was seen of a side: point by point, from what it was asked and what it answered.
use Rattle.std.specs.Prelude.{ℕ, Bool, false, ◌||◌, cond, List, [], ◌∷◌, ◌++◌, map, nat_lt, bytes_eq, sum_by, Option, Some, None, is_some}
use Rattle.std.specs.List.{filter_map, flat_map, list_any}
use Rattle.std.specs.Option.{option_map, option_and_then}
use Rattle.std.specs.Ordering.{is_eq, is_lt}
use Rattle.sync_path.specs.Path.{path_cmp, parent_of, last_name}
use Rattle.entry_tree.specs.Tree.{Names}
use Rattle.entry_tree.specs.declared.atom.Atom.{Atom}
use Rattle.entry_tree.specs.declared.atom.Atom.TheVariants as atom
use Rattle.entry_tree.specs.declared.entry.Entry.{Entry}
use Rattle.entry_tree.specs.declared.entry.Entry.TheVariants as entry
use Rattle.entry_tree.specs.declared.entry.Stamp.{Stamp}
use Rattle.entry_tree.specs.declared.problem_kind.ProblemKind.{ProblemKind}
use Rattle.entry_tree.specs.declared.problem_kind.ProblemKind.TheVariants as problem
use Rattle.ignore_glob.specs.Grammar.{Meaning}
use Rattle.roots_api.specs.declared.answer.Answer.{Answer}
use Rattle.roots_api.specs.declared.answer.Answer.TheVariants.{Listed, Held, Piece, Changed, TooLarge, Failed}
use Rattle.roots_api.specs.declared.op.Op.{Op}
use Rattle.roots_api.specs.declared.op.Op.TheVariants.{List as OpList, Fetch}
use Rattle.scan_core.specs.Board.{left_alone}

-- What was asked, and what was answered. The bytes of a piece are of the type `B`, since a log keeps only where they are.
pub record Heard (B : Type 0) : Type 0 where
  pub op : Op
  pub answer : Answer B

-- the first of some
abbrev pub first_one : {A : Type 0} → List A → Option A
first_one [] = None
first_one (x ∷ xs) = Some x

-- whether two paths are the same
abbrev pub same_path : Names → Names → Bool
same_path p q = is_eq (path_cmp p q)

-- the entry that rows name so
abbrev pub row_named : List ℕ → List (List ℕ × Entry) → Option Entry
row_named name [] = None
row_named name (row ∷ rows) = cond (bytes_eq name row.0) (Some row.1) (row_named name rows)

module _ {B : Type 0} where
  -- the answer to a List of a path
  abbrev pub answered_list : Names → Op → Answer B → Option (Answer B)
  answered_list p (OpList path) answer = cond (same_path p path) (Some answer) None
  answered_list p op answer = None

  -- the answer to a Fetch of a path
  abbrev pub answered_fetch : Names → Op → Answer B → Option (Answer B)
  answered_fetch p (Fetch path stamp offset) answer = cond (same_path p path) (Some answer) None
  answered_fetch p op answer = None

  -- the rows that an answer lists
  abbrev pub rows_of : Option (Answer B) → List (List ℕ × Entry)
  rows_of (Some (Listed rows)) = rows
  rows_of answer = []

  -- what was held at a path whose List was answered so, and which a row says to hold this
  abbrev pub held_by : Option (Answer B) → Option Entry → Option Entry
  held_by (Some (Listed rows)) row = Some entry.Dir
  held_by (Some (Held found)) row = found
  held_by answer row = row

  -- why a Fetch that was answered so doesn't show the content
  abbrev pub problem_by : Answer B → Option ProblemKind
  problem_by (Changed found) = Some problem.Changed
  problem_by (TooLarge bytes) = Some problem.TooLarge
  problem_by Failed = Some problem.Failed
  problem_by answer = None

  -- whether an answer is the last piece of a file
  abbrev pub is_last : Answer B → Bool
  is_last (Piece bytes last) = last
  is_last answer = false

  -- the paths that an answer to a List names
  abbrev pub named_by : Op → Answer B → List Names
  named_by (OpList path) (Listed rows) = map (λ row. path ++ row.0 ∷ []) rows
  named_by op answer = []

  -- the root, and the paths that the rows name
  abbrev pub paths_in : List (Heard B) → List Names
  paths_in hs = [] ∷ flat_map (λ h. named_by h.op h.answer) hs

-- how many bytes a piece has; `len` says how many its own bytes are
abbrev pub piece_len : {B : Type 0} → (B → ℕ) → Answer B → ℕ
piece_len len (Piece bytes last) = len bytes
piece_len len answer = 0

-- an atom by whether the content of its file was seen
abbrev pub file_atom : List ℕ → Bool → Option ProblemKind → Atom
file_atom digest exec None = atom.File digest exec
file_atom digest exec (Some kind) = atom.Problem kind

-- `len` says how many bytes a piece has, `rules` what is ignored, `size` how many bytes a file may have; `hs` is what was asked and
-- answered, the oldest first.
module _ {B : Type 0} (len : B → ℕ) (rules : List Meaning) (size : ℕ) (hs : List (Heard B)) where
  -- the answer to the List of a path
  abbrev pub listed : Names → Option (Answer B)
  listed p = first_one (filter_map (λ h. answered_list p h.op h.answer) hs)

  -- what the row of a folder says that a path holds. The root has no row, and counts as a folder.
  abbrev pub row_by : Option Names → Option (List ℕ) → Option Entry
  row_by (Some folder) (Some name) = row_named name (rows_of (listed folder))
  row_by folder name = Some entry.Dir

  -- What was held at a path: a folder where its List was answered by rows, what the answer found where that was something
  -- else, and what its row says where it wasn't listed.
  abbrev pub held : Names → Option Entry
  held p = held_by (listed p) (row_by (parent_of p) (last_name p))

  -- the answers to the Fetches of a path
  abbrev pub fetched : Names → List (Answer B)
  fetched p = filter_map (λ h. answered_fetch p h.op h.answer) hs

  -- how many bytes were fetched of the file at a path
  abbrev pub bytes_of : Names → ℕ
  bytes_of p = sum_by (piece_len len) (fetched p)

  -- why the content of the file at a path wasn't seen: a Fetch was refused, or the pieces hold more bytes than a file may have
  abbrev pub problem_at : Names → Option ProblemKind
  problem_at p = first_one (filter_map problem_by (fetched p) ++ cond (nat_lt size (bytes_of p)) (problem.TooLarge ∷ []) [])

  -- `digest` names the content of the file with a stamp at a path.
  module _ (digest : Names → Stamp → List ℕ) where
    abbrev pub atom_as : Names → Entry → Atom
    atom_as p entry.Dir = atom.Dir
    atom_as p (entry.File stamp exec) = file_atom (digest p stamp) exec (problem_at p)
    atom_as p (entry.Link text) = atom.Link text
    atom_as p entry.Other = atom.Untracked

    -- the atom of what was held at a path: what the rules ignore as what it is, and what is never tracked, is untracked
    abbrev pub atom_at : Names → Entry → Atom
    atom_at p entry = cond (left_alone rules p entry) atom.Untracked (atom_as p entry)

    -- THE SEEN TREE, at a path
    abbrev pub seen_at : Names → Option Atom
    seen_at p = option_map (atom_at p) (held p)

  -- `spares` says of which files, by path and stamp, the content needn't be fetched.
  module _ (spares : Names → Stamp → Bool) where
    abbrev pub wanted_as : Names → Entry → Option Op
    wanted_as p entry.Dir = cond (is_some (listed p)) None (Some (OpList p))
    wanted_as p (entry.File stamp exec) =
        cond (spares p stamp || (is_some (problem_at p) || list_any is_last (fetched p))) None (Some (Fetch p stamp (bytes_of p)))
    wanted_as p entry = None

    -- what is still asked of what was held at a path: the List of a folder that wasn't listed, and the next piece of a file whose
    -- content wasn't seen whole and met no problem; nothing where the rules ignore it
    abbrev pub wanted_of : Names → Entry → Option Op
    wanted_of p entry = cond (left_alone rules p entry) None (wanted_as p entry)

    abbrev pub wanted_at : Names → Option Op
    wanted_at p = option_and_then (wanted_of p) (held p)

    -- the first path, in path order, at which something is still asked
    abbrev pub earlier : Option (Names × Op) → Option (Names × Op) → Option (Names × Op)
    earlier None b = b
    earlier (Some a) None = Some a
    earlier (Some a) (Some b) = cond (is_lt (path_cmp b.0 a.0)) (Some b) (Some a)

    abbrev pub first_wanted : List Names → Option (Names × Op)
    first_wanted [] = None
    first_wanted (p ∷ ps) = earlier (option_map (λ op. (p, op)) (wanted_at p)) (first_wanted ps)

    -- WHAT IS ASKED NEXT
    abbrev pub asked_next : Option Op
    asked_next = option_map (λ e. e.1) (first_wanted (paths_in hs))

    -- what is seen so far: what is settled
    abbrev pub seen_so_far : (Names → Stamp → List ℕ) → Names → Option Atom
    seen_so_far digest p = cond (is_some (wanted_at p)) None (seen_at digest p)
