-- Kinds of answers, and which answers an operation can have.
use Rattle.std.specs.Prelude.{◌≡◌, ℕ, ◌+◌, ◌-◌, ◌<◌, ◌≤◌, Bool, true, false, List, map, length, min, bytes_eq, is_some, IsTrue, IsFalse, Option, Some, None, ⊤}
use Rattle.std.specs.Cmp.Lexicographic.{slice_cmp}
use Rattle.std.specs.List.{AllByRecursion}
use Rattle.std.specs.List.Sorted.{IsStrictlySortedBy}
use Rattle.std.specs.Ordering.{nat_cmp}
use Rattle.sync_path.specs.Path.{may_follow, parent_of}
use Rattle.entry_tree.specs.Entry.{is_dir}
use Rattle.entry_tree.specs.Tree.{Names, holds_folder}
use Rattle.entry_tree.specs.declared.entry.Entry.{Entry}
use Rattle.roots_api.specs.States.{is_expected, has_stamp}
use Rattle.roots_api.specs.declared.answer.Answer.{Answer}
use Rattle.roots_api.specs.declared.answer.Answer.TheVariants.{Listed, Held, Piece, Changed, TooLarge, Cleared, Opened, Kept, NotStaged, DigestDiffers, Done, NoParent, Differs, NoLink, NoExec, NotEmpty, Full, Failed}
use Rattle.roots_api.specs.declared.limits.TheConstants.{MAX_FETCH, MAX_PIECE}
use Rattle.roots_api.specs.declared.op.Op.{Op}
use Rattle.roots_api.specs.declared.op.Op.TheVariants.{List as OpList, Fetch, StageClear, StageOpen, StageAppend, StageKeep, Place, MakeDir, MakeLink, Remove, SetExec}

-- whether an answer tells that the operation was done
abbrev pub is_done : {B : Type 0} → Answer B → Bool
is_done Cleared = true
is_done Opened = true
is_done Kept = true
is_done (Done stamp) = true
is_done answer = false

-- whether an answer tells that the begun file was dropped
abbrev pub is_dropped : {B : Type 0} → Answer B → Bool
is_dropped (DigestDiffers wanted got) = true
is_dropped answer = false

-- whether an answer is Full
abbrev pub is_full : {B : Type 0} → Answer B → Bool
is_full (Full room) = true
is_full answer = false

-- whether an answer is Failed
abbrev pub is_failed : {B : Type 0} → Answer B → Bool
is_failed Failed = true
is_failed answer = false

-- whether an answer is NoLink
abbrev pub is_no_link : {B : Type 0} → Answer B → Bool
is_no_link NoLink = true
is_no_link answer = false

-- whether an answer is NoExec
abbrev pub is_no_exec : {B : Type 0} → Answer B → Bool
is_no_exec NoExec = true
is_no_exec answer = false

-- the rows of a folder at a path: their names rise in the order of their bytes, so that no two are the same, and each
-- makes a path behind the folder's
pub record AreRows (path : Names) (rows : List (List ℕ × Entry)) : Type 0 where
  pub rise : IsStrictlySortedBy (slice_cmp nat_cmp) (map (λ row. row.0) rows)
  pub follow : AllByRecursion (λ row. IsTrue (may_follow path row.0)) rows

-- a piece from a byte of a file on that isn't its last: it is full, and ends below the greatest length of a file
pub record IsFullPiece (offset : ℕ) (bytes : List ℕ) : Type 0 where
  pub full : length bytes ≡ MAX_PIECE
  pub ends : offset + MAX_PIECE < MAX_FETCH

-- a piece is full, or the last one, which isn't longer and ends within the greatest length of a file
abbrev pub IsPiece : ℕ → List ℕ → Bool → Type 0
IsPiece offset bytes true = length bytes ≤ min MAX_PIECE (MAX_FETCH - offset)
IsPiece offset bytes false = IsFullPiece offset bytes

-- what was found at the parent of a path, which isn't the root, is no folder
abbrev pub IsNoParent : Names → Option Entry → Type 0
IsNoParent path found = IsTrue (is_some (parent_of path)) × IsFalse (holds_folder is_dir found)

-- The answers that an operation can have, whatever the root is: those of its row, a line each, and Full and Failed.
abbrev pub IsAnswerTo : Op → Answer (List ℕ) → Type 0
IsAnswerTo (OpList path) (Listed rows) = AreRows path rows
IsAnswerTo (OpList path) (Held found) = IsFalse (holds_folder is_dir found)
IsAnswerTo (Fetch path stamp offset) (Piece bytes last) = IsPiece offset bytes last
IsAnswerTo (Fetch path stamp offset) (Changed found) = IsFalse (has_stamp found stamp)
IsAnswerTo (Fetch path stamp offset) (TooLarge bytes) = MAX_FETCH < bytes
IsAnswerTo StageClear Cleared = ⊤
IsAnswerTo StageOpen Opened = ⊤
IsAnswerTo (StageAppend bytes) Opened = ⊤
IsAnswerTo (StageAppend bytes) NotStaged = ⊤
IsAnswerTo (StageKeep digest) Kept = ⊤
IsAnswerTo (StageKeep digest) NotStaged = ⊤
IsAnswerTo (StageKeep digest) (DigestDiffers wanted got) = (wanted ≡ digest) × IsFalse (bytes_eq got digest)
IsAnswerTo (Place path digest exec expected) (Done (Some stamp)) = ⊤
IsAnswerTo (Place path digest exec expected) (NoParent found) = IsNoParent path found
IsAnswerTo (Place path digest exec expected) (Differs found) = IsFalse (is_expected found expected)
IsAnswerTo (Place path digest exec expected) NotStaged = ⊤
IsAnswerTo (Place path digest exec expected) NoExec = IsTrue exec
IsAnswerTo (MakeDir path) (Done None) = ⊤
IsAnswerTo (MakeDir path) (NoParent found) = IsNoParent path found
IsAnswerTo (MakeDir path) (Differs found) = IsTrue (is_some found)
IsAnswerTo (MakeLink path text expected) (Done None) = ⊤
IsAnswerTo (MakeLink path text expected) (NoParent found) = IsNoParent path found
IsAnswerTo (MakeLink path text expected) (Differs found) = IsFalse (is_expected found expected)
IsAnswerTo (MakeLink path text expected) NoLink = ⊤
IsAnswerTo (Remove path expected) (Done None) = ⊤
IsAnswerTo (Remove path expected) (Differs found) = IsFalse (is_expected found (Some expected))
IsAnswerTo (Remove path expected) NotEmpty = IsTrue (is_dir expected)
IsAnswerTo (SetExec path expected on) (Done None) = ⊤
IsAnswerTo (SetExec path expected on) (Differs found) = IsFalse (is_expected found (Some expected))
IsAnswerTo (SetExec path expected on) NoExec = IsTrue on
IsAnswerTo op (Full room) = ⊤
IsAnswerTo op Failed = ⊤
IsAnswerTo op answer = ⊥
