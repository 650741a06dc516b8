-- Small lists, as examples of what is seen and of what is a scan's list. A piece is the number of its bytes.
use Rattle.std.specs.Prelude.{◌≡◌, ℕ, true, false, List, [], ◌∷◌, codes, Some, None}
use Rattle.entry_tree.specs.Tree.{Names}
use Rattle.entry_tree.specs.declared.atom.Atom.TheVariants as atom
use Rattle.entry_tree.specs.declared.entry.Entry.{Entry}
use Rattle.entry_tree.specs.declared.entry.Entry.TheVariants as entry
use Rattle.entry_tree.specs.declared.entry.Stamp.{Stamp}
use Rattle.entry_tree.specs.declared.problem_kind.ProblemKind.TheVariants as problem
use Rattle.ignore_glob.specs.Grammar.{Meaning}
use Rattle.ignore_glob.specs.declared.piece.Part.TheVariants as parts
use Rattle.roots_api.specs.declared.answer.Answer.{Answer}
use Rattle.roots_api.specs.declared.answer.Answer.TheVariants.{Listed, Held, Piece, Changed}
use Rattle.roots_api.specs.declared.op.Op.{Op}
use Rattle.roots_api.specs.declared.op.Op.TheVariants.{List as OpList, Fetch}
use Rattle.scan_laws.specs.ScanLists.{is_whole_scan, is_scan_list}
use Rattle.scan_laws.specs.Seen.{Heard, seen_at}

abbrev pub bytes : ℕ → ℕ
bytes n = n

abbrev pub stamp : ℕ → Stamp
stamp n = record { 0 = n }

-- each stamp names a content whose digest is one byte here
abbrev pub digest : Names → Stamp → List ℕ
digest path s = s.0 ∷ []

abbrev pub a : Names
a = codes "a" ∷ []

abbrev pub b : Names
b = codes "b" ∷ []

-- folders are ignored: the pattern `**/`
abbrev pub no_folders : List Meaning
no_folders = record { negated = false; anchored = false; directories = true; parts = parts.Span ∷ [] } ∷ []

abbrev pub heard : Op → Answer ℕ → Heard ℕ
heard op answer = record { op = op; answer = answer }

abbrev pub listed_root : List (List ℕ × Entry) → Heard ℕ
listed_root rows = heard (OpList []) (Listed rows)

-- an executable file of five bytes, in two pieces
abbrev pub two_pieces : List (Heard ℕ)
two_pieces = listed_root ((codes "a", entry.File (stamp 7) true) ∷ []) ∷ heard (Fetch a (stamp 7) 0) (Piece 3 false) ∷ heard (Fetch a (stamp 7) 3) (Piece 2 true) ∷ []

abbrev pub FileIsSeen : Type 0
FileIsSeen = (is_whole_scan bytes 1 [] 5 two_pieces ≡ true) × (seen_at bytes [] 5 two_pieces digest a ≡ Some (atom.File (7 ∷ []) true)) × (seen_at bytes [] 5 two_pieces digest [] ≡ Some atom.Dir) × (seen_at bytes [] 5 two_pieces digest b ≡ None)

-- where a file may have four bytes, it is a problem with the second piece; where it may have two, no second piece is asked
abbrev pub one_piece : List (Heard ℕ)
one_piece = listed_root ((codes "a", entry.File (stamp 7) true) ∷ []) ∷ heard (Fetch a (stamp 7) 0) (Piece 3 false) ∷ []

abbrev pub LargeFileIsProblem : Type 0
LargeFileIsProblem = (is_whole_scan bytes 1 [] 4 two_pieces ≡ true) × (seen_at bytes [] 4 two_pieces digest a ≡ Some (atom.Problem problem.TooLarge)) × (is_scan_list bytes 1 [] 2 (λ p s. false) two_pieces ≡ false) × (is_whole_scan bytes 1 [] 2 one_piece ≡ true) × (is_whole_scan bytes 1 [] 3 one_piece ≡ false)

-- the file was replaced between two pieces
abbrev pub replaced : List (Heard ℕ)
replaced = listed_root ((codes "a", entry.File (stamp 7) true) ∷ []) ∷ heard (Fetch a (stamp 7) 0) (Piece 3 false) ∷ heard (Fetch a (stamp 7) 3) (Changed (Some (entry.File (stamp 8) true))) ∷ []

abbrev pub ChangedFileIsProblem : Type 0
ChangedFileIsProblem = (is_whole_scan bytes 1 [] 5 replaced ≡ true) × (seen_at bytes [] 5 replaced digest a ≡ Some (atom.Problem problem.Changed))

-- a row names a folder, which is a file when it is listed
abbrev pub became_file : List (Heard ℕ)
became_file = listed_root ((codes "a", entry.Dir) ∷ []) ∷ heard (OpList a) (Held (Some (entry.File (stamp 3) false))) ∷ heard (Fetch a (stamp 3) 0) (Piece 0 true) ∷ []

abbrev pub FolderBecameFile : Type 0
FolderBecameFile = (is_whole_scan bytes 1 [] 5 became_file ≡ true) × (seen_at bytes [] 5 became_file digest a ≡ Some (atom.File (3 ∷ []) false))

-- a folder that the rules ignore isn't listed
abbrev pub folder_and_file : List (Heard ℕ)
folder_and_file = listed_root ((codes "a", entry.Dir) ∷ (codes "b", entry.File (stamp 3) false) ∷ []) ∷ heard (Fetch b (stamp 3) 0) (Piece 0 true) ∷ []

abbrev pub IgnoredIsUntracked : Type 0
IgnoredIsUntracked = (is_whole_scan bytes 2 no_folders 5 folder_and_file ≡ true) × (seen_at bytes no_folders 5 folder_and_file digest a ≡ Some atom.Untracked) × (is_scan_list bytes 2 [] 5 (λ p s. false) folder_and_file ≡ false)

-- of two folders one is listed
abbrev pub two_folders : List (Heard ℕ)
two_folders = listed_root ((codes "a", entry.Dir) ∷ (codes "b", entry.Dir) ∷ []) ∷ heard (OpList a) (Listed []) ∷ []

-- the second folder before the first is no scan's list
abbrev pub out_of_order : List (Heard ℕ)
out_of_order = listed_root ((codes "a", entry.Dir) ∷ (codes "b", entry.Dir) ∷ []) ∷ heard (OpList b) (Listed []) ∷ heard (OpList a) (Listed []) ∷ []

abbrev pub OrderIsPathOrder : Type 0
OrderIsPathOrder = is_scan_list bytes 2 [] 5 (λ p s. false) out_of_order ≡ false

-- two rows where a side may have one
abbrev pub EndsAtLimit : Type 0
EndsAtLimit = (is_scan_list bytes 1 [] 5 (λ p s. false) two_folders ≡ false) × (is_scan_list bytes 2 [] 5 (λ p s. false) two_folders ≡ true)
