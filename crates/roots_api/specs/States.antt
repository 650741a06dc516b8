-- What a root's state is.
use Rattle.std.specs.Prelude.{ℕ, Bool, true, false, ◌==◌, ◌&&◌, cond, List, [], ◌∷◌, ◌++◌, length, bytes_eq, slice_index_or, Option, Some, None, unwrap_or}
use Rattle.std.specs.FinMap as map
use Rattle.std.specs.FinMap.{FinMap}
use Rattle.std.specs.Cmp.Lexicographic.{slice_cmp}
use Rattle.std.specs.Option.{option_and_then, option_map_or}
use Rattle.std.specs.Ordering.{nat_cmp}
use Rattle.sync_path.specs.Path.{parent_of}
use Rattle.entry_tree.specs.Atom.{same_bit}
use Rattle.entry_tree.specs.Entry.{is_dir}
use Rattle.entry_tree.specs.Tree.{Names, ByPath, holds_folder, set_at}
use Rattle.entry_tree.specs.declared.entry.Entry.{Entry}
use Rattle.entry_tree.specs.declared.entry.Entry.TheVariants.{Dir, File, Link, Other}
use Rattle.entry_tree.specs.declared.entry.Stamp.{Stamp}

-- What a session has staged on a root: the unfinished file, where one is begun, and the files that are kept, by digest.
pub record Staged : Type 0 where
  pub begun : Option (List ℕ)
  pub kept : FinMap (slice_cmp nat_cmp) (List ℕ)

-- A root's state: the entry at each path; the content ledger, which has all contents that files ever had, and in which
-- a stamp is an index; and what each session has staged, by the session's identifier.
pub record RootState : Type 0 where
  pub tree : ByPath Entry
  pub ledger : List (List ℕ)
  pub staging : FinMap nat_cmp Staged

-- a root as it is made: a folder without names
abbrev pub new_root : RootState
new_root = record { tree = map.insert map.empty [] Dir; ledger = []; staging = map.empty }

-- what a session has staged that has staged nothing
abbrev pub nothing_staged : Staged
nothing_staged = record { begun = None; kept = map.empty }

-- what a session has staged
abbrev pub staged_by : RootState → ℕ → Staged
staged_by s id = unwrap_or (map.get s.staging id) nothing_staged

-- the bytes that a session keeps under a digest
abbrev pub kept_by : RootState → ℕ → List ℕ → Option (List ℕ)
kept_by s id digest = map.get (staged_by s id).kept digest

-- the content that a stamp names
abbrev pub content_of : List (List ℕ) → Stamp → List ℕ
content_of ledger stamp = slice_index_or ledger stamp.0 []

-- the stamp of the next content
abbrev pub next_stamp : RootState → Stamp
next_stamp s = record { 0 = length s.ledger }

-- whether two entries are the same, a file's stamp and executable bit included
abbrev pub same_entry : Entry → Entry → Bool
same_entry Dir Dir = true
same_entry (File a x) (File b y) = a.0 == b.0 && same_bit x y
same_entry (Link a) (Link b) = bytes_eq a b
same_entry Other Other = true
same_entry a b = false

-- whether what stands at a path is what is expected there
abbrev pub is_expected : Option Entry → Option Entry → Bool
is_expected None None = true
is_expected (Some found) (Some expected) = same_entry found expected
is_expected found expected = false

-- whether a file with this stamp was found, whatever its executable bit
abbrev pub has_stamp : Option Entry → Stamp → Bool
has_stamp (Some (File found exec)) stamp = found.0 == stamp.0
has_stamp found stamp = false

-- the parent of a path with what stands there, where that is no folder; the root has no parent
abbrev pub missing_parent : ByPath Entry → Names → Option (Names × Option Entry)
missing_parent tree path =
    option_and_then (λ parent. cond (holds_folder is_dir (map.get tree parent)) None (Some (parent, map.get tree parent))) (parent_of path)

-- the state with another tree
abbrev pub with_tree : RootState → ByPath Entry → RootState
with_tree s tree = record { tree = tree; ledger = s.ledger; staging = s.staging }

-- the state in which a session has staged this
abbrev pub with_staged : RootState → ℕ → Staged → RootState
with_staged s id staged = record { tree = s.tree; ledger = s.ledger; staging = map.insert s.staging id staged }

-- the state in which a session has staged nothing
abbrev pub without_staged : RootState → ℕ → RootState
without_staged s id = record { tree = s.tree; ledger = s.ledger; staging = map.remove s.staging id }

-- the state with a file of a new content and this executable bit at a path, in place of what was there
abbrev pub with_file : RootState → Names → List ℕ → Bool → RootState
with_file s path bytes exec =
    record { tree = set_at is_dir s.tree path (File (next_stamp s) exec); ledger = s.ledger ++ bytes ∷ []; staging = s.staging }

-- an entry with this executable bit, if it is a file
abbrev pub with_bit : Bool → Entry → Entry
with_bit on (File stamp exec) = File stamp on
with_bit on entry = entry

-- the state in which what stands at a path has this executable bit
abbrev pub with_exec : RootState → Names → Bool → RootState
with_exec s path on =
    with_tree s (option_map_or (λ found. set_at is_dir s.tree path (with_bit on found)) (map.get s.tree path) s.tree)
