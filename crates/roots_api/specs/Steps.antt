-- What a root answers to an operation of a session, and what it makes of it.
use Rattle.std.specs.Prelude.{ℕ, Bool, true, false, ◌+◌, ◌&&◌, cond, List, [], ◌++◌, length, take, drop, nat_lt, nat_le, bytes_eq, Option, Some, None, is_some, unwrap_or}
use Rattle.std.specs.FinMap as map
use Rattle.std.specs.Option.{option_map, option_map_or}
use Rattle.sha2.specs.Sha256.{sha256}
use Rattle.entry_tree.specs.Entry.{is_dir}
use Rattle.entry_tree.specs.Tree.{Names, ByPath, children_below, holds_folder, has_below, set_at, without_under}
use Rattle.entry_tree.specs.declared.entry.Entry.{Entry}
use Rattle.entry_tree.specs.declared.entry.Entry.TheVariants.{Dir, Link}
use Rattle.roots_api.specs.Answers.{is_done, is_dropped}
use Rattle.roots_api.specs.States.{RootState, Staged, staged_by, kept_by, content_of, next_stamp, is_expected, has_stamp, missing_parent, with_tree, with_staged, without_staged, with_file, with_exec}
use Rattle.roots_api.specs.declared.answer.Answer.{Answer}
use Rattle.roots_api.specs.declared.answer.Answer.TheVariants.{Listed, Held, Piece, Changed, TooLarge, Cleared, Opened, Kept, NotStaged, DigestDiffers, Done, NoParent, Differs, NotEmpty}
use Rattle.roots_api.specs.declared.limits.TheConstants.{MAX_FETCH, MAX_PIECE}
use Rattle.roots_api.specs.declared.op.Op.{Op}
use Rattle.roots_api.specs.declared.op.Op.TheVariants.{List as OpList, Fetch, StageClear, StageOpen, StageAppend, StageKeep, Place, MakeDir, MakeLink, Remove, SetExec}

-- a piece of a content, from a byte of it on
abbrev pub piece_of : List ℕ → ℕ → Answer (List ℕ)
piece_of content offset =
    cond (nat_lt MAX_FETCH (length content)) (TooLarge (length content))
    (Piece (take MAX_PIECE (drop offset content)) (nat_le (length content) (offset + MAX_PIECE)))

-- the answer to a digest under which the begun file is to be kept
abbrev pub keep_answer : List ℕ → Option (List ℕ) → Answer (List ℕ)
keep_answer digest None = NotStaged
keep_answer digest (Some bytes) = cond (bytes_eq (sha256 bytes) digest) Kept (DigestDiffers digest (sha256 bytes))

-- NoParent where the parent is no folder, else this answer
abbrev pub in_folder : ByPath Entry → Names → Answer (List ℕ) → Answer (List ℕ)
in_folder tree path answer = option_map_or (λ missing. NoParent missing.1) (missing_parent tree path) answer

-- Differs where something else than what is expected stands there, else this answer
abbrev pub where_expected : ByPath Entry → Names → Option Entry → Answer (List ℕ) → Answer (List ℕ)
where_expected tree path expected answer =
    cond (is_expected (map.get tree path) expected) answer (Differs (map.get tree path))

-- What an operation of the session with this identifier answers on a state. (It may also answer Failed;
-- Full where the root is bounded; NoLink and NoExec where it keeps no links, no executable bits, and isn't told.)
abbrev pub answer_of : RootState → ℕ → Op → Answer (List ℕ)
answer_of s id (OpList path) =
    cond (holds_folder is_dir (map.get s.tree path)) (Listed (children_below s.tree path)) (Held (map.get s.tree path))
answer_of s id (Fetch path stamp offset) =
    cond (has_stamp (map.get s.tree path) stamp) (piece_of (content_of s.ledger stamp) offset)
    (Changed (map.get s.tree path))
answer_of s id StageClear = Cleared
answer_of s id StageOpen = Opened
answer_of s id (StageAppend bytes) = cond (is_some (staged_by s id).begun) Opened NotStaged
answer_of s id (StageKeep digest) = keep_answer digest (staged_by s id).begun
answer_of s id (Place path digest exec expected) =
    in_folder s.tree path (where_expected s.tree path expected
    (cond (is_some (kept_by s id digest)) (Done (Some (next_stamp s))) NotStaged))
answer_of s id (MakeDir path) = in_folder s.tree path (where_expected s.tree path None (Done None))
answer_of s id (MakeLink path text expected) = in_folder s.tree path (where_expected s.tree path expected (Done None))
answer_of s id (Remove path expected) =
    where_expected s.tree path (Some expected) (cond (is_dir expected && has_below s.tree path) NotEmpty (Done None))
answer_of s id (SetExec path expected on) = where_expected s.tree path (Some expected) (Done None)

-- what a session has staged once it began a new file
abbrev pub begin_file : Staged → Staged
begin_file staged = record { begun = Some []; kept = staged.kept }

-- once bytes were added to the begun file
abbrev pub append_bytes : List ℕ → Staged → Staged
append_bytes bytes staged = record { begun = option_map (λ before. before ++ bytes) staged.begun; kept = staged.kept }

-- once the begun file was kept under a digest
abbrev pub keep_file : List ℕ → Staged → Staged
keep_file digest staged = record { begun = None; kept = map.insert staged.kept digest (unwrap_or staged.begun []) }

-- once the begun file was dropped
abbrev pub drop_file : Staged → Staged
drop_file staged = record { begun = None; kept = staged.kept }

-- what an operation that is done makes of a state
abbrev pub done : RootState → ℕ → Op → RootState
done s id (OpList path) = s
done s id (Fetch path stamp offset) = s
done s id StageClear = without_staged s id
done s id StageOpen = with_staged s id (begin_file (staged_by s id))
done s id (StageAppend bytes) = with_staged s id (append_bytes bytes (staged_by s id))
done s id (StageKeep digest) = with_staged s id (keep_file digest (staged_by s id))
done s id (Place path digest exec expected) = with_file s path (unwrap_or (kept_by s id digest) []) exec
done s id (MakeDir path) = with_tree s (set_at is_dir s.tree path Dir)
done s id (MakeLink path text expected) = with_tree s (set_at is_dir s.tree path (Link text))
done s id (Remove path expected) = with_tree s (without_under s.tree path)
done s id (SetExec path expected on) = with_exec s path on

-- whether an operation is one of the five that change a tree
abbrev pub is_changing : Op → Bool
is_changing (Place path digest exec expected) = true
is_changing (MakeDir path) = true
is_changing (MakeLink path text expected) = true
is_changing (Remove path expected) = true
is_changing (SetExec path expected on) = true
is_changing op = false

-- What an operation makes of a state, by its answer: one that is done changes it, a digest that differs drops the begun
-- file, and any other answer, Failed among them, changes nothing.
abbrev pub after : {B : Type 0} → RootState → ℕ → Op → Answer B → RootState
after s id op answer =
    cond (is_done answer) (done s id op) (cond (is_dropped answer) (with_staged s id (drop_file (staged_by s id))) s)
