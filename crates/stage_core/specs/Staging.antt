-- A staging: what it asks next, and what it makes of an answer.
use Rattle.std.specs.Prelude.{ℕ, ◌+◌, Bool, true, false, List, [], ◌∷◌, ◌++◌, length, Option, Some, None, if◌then◌else◌}
use Rattle.std.specs.Cmp.Lexicographic.{slice_cmp}
use Rattle.std.specs.FinMap as map
use Rattle.std.specs.FinSet as set
use Rattle.std.specs.Option.{option_map}
use Rattle.std.specs.Ordering.{nat_cmp}
use Rattle.entry_tree.specs.Side.{other_side}
use Rattle.entry_tree.specs.declared.side.Side.{Side}
use Rattle.mode_rules.specs.declared.problem.Cause.{Cause}
use Rattle.mode_rules.specs.declared.problem.Cause.TheVariants as cause
use Rattle.mode_rules.specs.declared.problem.Problem.{Problem}
use Rattle.roots_api.specs.Copying.{has_path_or_bytes}
use Rattle.roots_api.specs.declared.answer.Answer.{Answer}
use Rattle.roots_api.specs.declared.answer.Answer.TheVariants.{Piece, Changed, TooLarge, NotStaged, DigestDiffers, Full, Failed}
use Rattle.roots_api.specs.declared.op.Op.{Op}
use Rattle.roots_api.specs.declared.op.Op.TheVariants.{Fetch, StageClear, StageOpen, StageAppend, StageKeep}
use Rattle.stage_core.specs.declared.doing.Doing.{Doing}
use Rattle.stage_core.specs.declared.doing.Doing.TheVariants.{Clearing, Opening, Fetching, Appending, Keeping, Resting}
use Rattle.stage_core.specs.declared.heard.Heard.{Heard}
use Rattle.stage_core.specs.declared.heard.Heard.TheVariants.{Went, Got, Missed, Broke, Filled}
use Rattle.stage_core.specs.declared.need.Need.{Need}

-- a set of digests
abbrev pub Digests : Type 0
Digests = set.FinSet (slice_cmp nat_cmp)

-- What a staging comes to: what it does next, the files that are left, the first one in hand, the digests that were kept, and
-- what became of the files that weren't staged, in order.
pub record Stand : Type 0 where
  pub doing : Doing
  pub left : List Need
  pub kept : Digests
  pub missing : List Problem

-- what is done first: nothing, where no file is needed
abbrev pub first_done : List Need → Doing
first_done [] = Resting
first_done (need ∷ needs) = Clearing

-- a staging of these files that was told nothing
abbrev pub new_stand : List Need → Stand
new_stand needs = record { doing = first_done needs; left = needs; kept = map.empty; missing = [] }

-- ---- what is asked next

-- the operation for the file in hand
abbrev pub asked_for : Doing → Need → Option Op
asked_for Clearing need = Some StageClear
asked_for Opening need = Some StageOpen
asked_for (Fetching offset) need = Some (Fetch need.path need.stamp offset)
asked_for (Appending bytes end last) need = Some (StageAppend bytes)
asked_for Keeping need = Some (StageKeep need.digest)
asked_for Resting need = None

abbrev pub asked_of : Doing → List Need → Option Op
asked_of doing [] = None
asked_of doing (need ∷ left) = asked_for doing need

-- the operation that is asked next
abbrev pub op_of : Stand → Option Op
op_of s = asked_of s.doing s.left

-- whether an operation is there that has a path or bytes: only its copy takes memory
abbrev pub is_copied : Option Op → Bool
is_copied None = false
is_copied (Some op) = has_path_or_bytes op

-- whether a piece is fetched
abbrev pub is_fetching : Doing → Bool
is_fetching (Fetching offset) = true
is_fetching doing = false

-- the side that is asked: a piece is fetched from the other side, and all else is asked of the side that needs the files
abbrev pub asked_side : Side → Doing → Side
asked_side side doing = if is_fetching doing then other_side side else side

-- what is asked next, and of which side
abbrev pub asked : Side → Stand → Option (Side × Op)
asked side s = option_map (λ op. (asked_side side s.doing, op)) (op_of s)

-- ---- what is made of an answer

-- what an answer means for a staging
abbrev pub heard : Answer (List ℕ) → Heard
heard (Piece bytes last) = Got bytes last
heard (Changed found) = Missed cause.Changed
heard (TooLarge bytes) = Missed cause.TooLarge
heard NotStaged = Missed cause.NotStaged
heard (DigestDiffers wanted got) = Missed (cause.DigestDiffers wanted got)
heard (Full room) = Filled
heard Failed = Broke
heard answer = Went

-- the same files in hand, and this is done next
abbrev pub with_doing : Stand → Doing → Stand
with_doing s doing = record { doing = doing; left = s.left; kept = s.kept; missing = s.missing }

-- nothing further is asked
abbrev pub ended : Stand → Stand
ended s = with_doing s Resting

-- whether the digest of the first of these files is kept
abbrev pub is_first_kept : Digests → List Need → Bool
is_first_kept kept [] = false
is_first_kept kept (need ∷ left) = map.contains_key kept need.digest

-- these files from the first one on whose digest isn't kept
abbrev pub pending : Digests → List Need → List Need
pending kept [] = []
pending kept (need ∷ left) = if map.contains_key kept need.digest then pending kept left else need ∷ left

-- the first of these files is begun, if there is one
abbrev pub first_begun : List Need → Doing
first_begun [] = Resting
first_begun (need ∷ left) = Opening

-- the first of these files whose digest isn't kept is begun, and those before it are passed over
abbrev pub passed : Digests → List Problem → List Need → Stand
passed kept missing left = record { doing = first_begun (pending kept left); left = pending kept left; kept = kept; missing = missing }

-- what is done behind a piece
abbrev pub behind_piece : ℕ → Bool → Doing
behind_piece end last = if last then Keeping else Fetching end

-- what is done with a piece that reaches up to this byte: one with no bytes isn't added
abbrev pub with_piece : List ℕ → ℕ → Bool → Doing
with_piece [] end last = behind_piece end last
with_piece (byte ∷ bytes) end last = Appending (byte ∷ bytes) end last

abbrev pub kept_first : Stand → List Need → Stand
kept_first s [] = ended s
kept_first s (need ∷ left) = passed (map.insert s.kept need.digest tt) s.missing left

-- once an operation is done
abbrev pub went : Stand → Doing → Stand
went s Clearing = passed s.kept s.missing s.left
went s Opening = with_doing s (Fetching 0)
went s (Fetching offset) = ended s
went s (Appending bytes end last) = with_doing s (behind_piece end last)
went s Keeping = kept_first s s.left
went s Resting = ended s

-- once a piece was fetched
abbrev pub got : Stand → List ℕ → Bool → Doing → Stand
got s bytes last (Fetching offset) = with_doing s (with_piece bytes (offset + length bytes) last)
got s bytes last doing = ended s

-- once the file in hand can't be staged, for this cause; the problem is of the side that needs it
abbrev pub without_first : Side → Stand → Cause → List Need → Stand
without_first side s why [] = ended s
without_first side s why (need ∷ left) = passed s.kept (s.missing ++ (record { side = side; path = need.path; cause = why }) ∷ []) left

-- Once an operation wasn't done, for this cause. Without its pieces, or unkept, the file isn't staged. Where a piece can't be
-- added, no file is begun, and to keep it will tell so.
abbrev pub missed : Side → Stand → Cause → Doing → Stand
missed side s why Clearing = ended s
missed side s why Opening = ended s
missed side s why (Fetching offset) = without_first side s why s.left
missed side s why (Appending bytes end last) = with_doing s (behind_piece end last)
missed side s why Keeping = without_first side s why s.left
missed side s why Resting = ended s

-- once a root failed: a file that can't be fetched isn't staged; else nothing further is asked
abbrev pub broke : Side → Stand → Doing → Stand
broke side s (Fetching offset) = without_first side s cause.Failed s.left
broke side s doing = ended s

-- once this is heard
abbrev pub turned : Side → Stand → Heard → Stand
turned side s Went = went s s.doing
turned side s (Got bytes last) = got s bytes last s.doing
turned side s (Missed why) = missed side s why s.doing
turned side s Broke = broke side s s.doing
turned side s Filled = ended s

-- once what is asked next is answered
abbrev pub after : Side → Stand → Answer (List ℕ) → Stand
after side s answer = turned side s (heard answer)

-- once these were answered, the oldest first
abbrev pub after_all : Side → Stand → List (Answer (List ℕ)) → Stand
after_all side s [] = s
after_all side s (answer ∷ answers) = after_all side (after side s answer) answers
