-- What became of the files that a side needs of the other.
use Rattle.std.specs.Prelude.{ℕ, Bool, true, false, List, [], ◌∷◌, drop, bytes_eq, is_some, Option, Some, None, if◌then◌else◌}
use Rattle.std.specs.List.{filter, filter_map, flat_map}
use Rattle.std.specs.Option.{option_map, option_and_then, option_map_or}
use Rattle.entry_tree.specs.Side.{other_side}
use Rattle.entry_tree.specs.Tree.{Names}
use Rattle.entry_tree.specs.declared.side.Side.{Side}
use Rattle.mode_rules.specs.Placing.{placed_files}
use Rattle.mode_rules.specs.declared.change.PlacedFile.{PlacedFile}
use Rattle.mode_rules.specs.declared.problem.Cause.{Cause}
use Rattle.mode_rules.specs.declared.problem.Cause.TheVariants as cause
use Rattle.mode_rules.specs.declared.problem.Problem.{Problem}
use Rattle.roots_api.specs.Answers.{is_done}
use Rattle.roots_api.specs.declared.answer.Answer.{Answer}
use Rattle.roots_api.specs.declared.answer.Answer.TheVariants.{Changed, TooLarge, NotStaged, DigestDiffers, NoParent, Differs, NoLink, NoExec, NotEmpty, Failed}
use Rattle.roots_api.specs.declared.event.Span.{Span}
use Rattle.roots_api.specs.declared.op.Op.{Op}
use Rattle.roots_api.specs.declared.op.Op.TheVariants.{StageKeep}
use Rattle.scan_laws.specs.Bounds.{is_fetch}
use Rattle.scan_laws.specs.Seen.{Heard, answered_fetch, first_one}
use Rattle.cycle_law.specs.Cycles.{Session, Cycle, Ground, log_of, scans_of, heard_on}
use Rattle.cycle_law.specs.Ordering.{is_kept}
use Rattle.cycle_law.specs.Plans.{changes_of}

-- why an operation that changes a tree or keeps a file wasn't done, by its answer. One that failed has no problem.
abbrev pub cause_of : Answer Span → Option Cause
cause_of (Differs found) = Some cause.Differs
cause_of NotEmpty = Some cause.NotEmpty
cause_of (NoParent found) = Some cause.NoParent
cause_of NoLink = Some cause.NoLink
cause_of NoExec = Some cause.NoExec
cause_of (DigestDiffers wanted got) = Some (cause.DigestDiffers wanted got)
cause_of NotStaged = Some cause.NotStaged
cause_of answer = None

-- why a Fetch gave no piece, by its answer
abbrev pub fetch_cause : Answer Span → Option Cause
fetch_cause (Changed found) = Some cause.Changed
fetch_cause (TooLarge bytes) = Some cause.TooLarge
fetch_cause Failed = Some cause.Failed
fetch_cause answer = None

-- the problem at a path, if there is a cause
abbrev pub problem_for : Side → Names → Option Cause → Option Problem
problem_for side path why = option_map (λ w. record { side = side; path = path; cause = w }) why

-- whether an operation is a StageKeep, and whether it is one of this digest
abbrev pub is_keep : Op → Bool
is_keep (StageKeep digest) = true
is_keep op = false

abbrev pub is_keep_of : List ℕ → Op → Bool
is_keep_of digest (StageKeep wanted) = bytes_eq digest wanted
is_keep_of digest op = false

-- the answer to the first of some StageKeeps, if it is one of this digest
abbrev pub kept_next : List ℕ → List (Heard Span) → Option (Answer Span)
kept_next digest [] = None
kept_next digest (h ∷ hs) = if is_keep_of digest h.op then Some h.answer else None

-- the digests that are kept behind an answer to a StageKeep, and the StageKeeps behind it
abbrev pub kept_by : List ℕ → Option (Answer Span) → List (List ℕ) → List (List ℕ)
kept_by digest answer kept = if option_map_or is_done answer false then digest ∷ kept else kept

abbrev pub keeps_behind : Option (Answer Span) → List (Heard Span) → List (Heard Span)
keeps_behind answer keeps = if is_some answer then drop 1 keeps else keeps

-- Of some files, in order, those that weren't staged, with the cause. A file whose digest is kept already needs nothing. Else its Fetch gave no piece,
-- or it is kept by the next StageKeep, or isn't. `fetched` says why the Fetch of a path gave no piece, `keeps` are the StageKeeps to come, and `kept`
-- the digests so far.
abbrev pub unstaged : Side → (Names → Option Cause) → List PlacedFile → List (Heard Span) → List (List ℕ) → List (Option Problem)
unstaged side fetched [] keeps kept = []
unstaged side fetched (file ∷ files) keeps kept =
    if is_kept kept file.digest then unstaged side fetched files keeps kept
    else (if is_some (fetched file.path) then problem_for side file.path (fetched file.path) ∷ unstaged side fetched files keeps kept
    else problem_for side file.path (option_and_then cause_of (kept_next file.digest keeps))
    ∷ unstaged side fetched files (keeps_behind (kept_next file.digest keeps) keeps) (kept_by file.digest (kept_next file.digest keeps) kept))

module _ (session : Session) (g : Ground) (c : Cycle) where
  -- THE STAGING FETCHES of a cycle on a side: all behind those of its scan. They are for the other side's files.
  abbrev pub staging_fetches : Side → List (Heard Span)
  staging_fetches side = drop (scans_of c side) (filter (λ (h : Heard Span). is_fetch h.op) (heard_on c (log_of g side)))

  module _ (side : Side) where
    -- why the Fetch of a file that the side needs gave no piece
    abbrev pub fetched_for : Names → Option Cause
    fetched_for path = first_one (filter_map fetch_cause (filter_map (λ (h : Heard Span). answered_fetch path h.op h.answer) (staging_fetches (other_side side))))

    -- the files that the side's changes place
    abbrev pub needed : List PlacedFile
    needed = flat_map placed_files (changes_of session g c side)

    -- THE PROBLEMS OF STAGING, in order: each at the path of the file, of the side that needs it
    abbrev pub staging_problems : List Problem
    staging_problems = filter_map (λ problem. problem) (unstaged side fetched_for needed (filter (λ (h : Heard Span). is_keep h.op) (heard_on c (log_of g side))) [])
