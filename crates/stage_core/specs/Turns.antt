-- Lists of operations with their answers, and which of them a staging gives. They know no machine.
use Rattle.std.specs.Prelude.{◌≡◌, ℕ, ◌+◌, Bool, true, false, not, ◌&&◌, ◌||◌, ◌==◌, List, [], ◌∷◌, ◌++◌, map, bytes_eq, Option, Some, None, if◌then◌else◌}
use lib.Pointwise.{pointwise}
use Rattle.std.specs.List.{list_any}
use Rattle.entry_tree.specs.Tree.{Names}
use Rattle.entry_tree.specs.declared.side.Side.{Side}
use Rattle.mode_rules.specs.declared.problem.Problem.{Problem}
use Rattle.roots_api.specs.Answers.{IsAnswerTo, is_failed, is_full}
use Rattle.roots_api.specs.declared.answer.Answer.{Answer}
use Rattle.roots_api.specs.declared.answer.Answer.TheVariants.{Kept}
use Rattle.roots_api.specs.declared.op.Op.{Op}
use Rattle.roots_api.specs.declared.op.Op.TheVariants.{Fetch, StageKeep}
use Rattle.stage_core.specs.Staging.{Stand, asked, after, after_all, new_stand}
use Rattle.stage_core.specs.declared.need.Need.{Need}

-- an operation that was asked of a side, and its answer
pub record Turn : Type 0 where
  pub side : Side
  pub op : Op
  pub answer : Answer (List ℕ)

-- this was asked, and answered by its row
abbrev pub IsTurn : Option (Side × Op) → Turn → Type 0
IsTurn None t = ⊥
IsTurn (Some next) t = (t.side ≡ next.0) × (t.op ≡ next.1) × IsAnswerTo next.1 t.answer

-- in each turn that is asked which is to be asked then
abbrev pub IsCourse : Side → Stand → List Turn → Type 0
IsCourse side s [] = Unit {0}
IsCourse side s (t ∷ ts) = IsTurn (asked side s) t × IsCourse side (after side s t.answer) ts

-- what some turns come to
abbrev pub stand_of : Side → List Need → List Turn → Stand
stand_of side needs turns = after_all side (new_stand needs) (map (λ (t : Turn). t.answer) turns)

-- these turns are those of a staging of these files, up to some point
abbrev pub Stages : Side → List Need → List Turn → Type 0
Stages side needs turns = IsCourse side (new_stand needs) turns

-- it is at its end with these turns
abbrev pub IsWhole : Side → List Need → List Turn → Type 0
IsWhole side needs turns = asked side (stand_of side needs turns) ≡ None

-- the turn in which this is asked and answered so, if anything is asked
abbrev pub turn_of : Option (Side × Op) → Answer (List ℕ) → List Turn
turn_of None answer = []
turn_of (Some next) answer = (record { side = next.0; op = next.1; answer = answer }) ∷ []

-- the turns of a staging that was told these answers
abbrev pub turns_of : Side → Stand → List (Answer (List ℕ)) → List Turn
turns_of side s [] = []
turns_of side s (answer ∷ answers) = turn_of (asked side s) answer ++ turns_of side (after side s answer) answers

-- whether an operation is a Fetch
abbrev pub is_fetch : Op → Bool
is_fetch (Fetch path stamp offset) = true
is_fetch op = false

-- whether an answer ends a staging: Full, or Failed to another operation than a Fetch
abbrev pub stops_by : Op → Answer (List ℕ) → Bool
stops_by op answer = is_full answer || (is_failed answer && not (is_fetch op))

-- whether a turn does
abbrev pub stops : Turn → Bool
stops t = stops_by t.op t.answer

-- how many pieces are asked for
abbrev pub fetches : List Turn → ℕ
fetches [] = 0
fetches (t ∷ ts) = if is_fetch t.op then fetches ts + 1 else fetches ts

-- whether an operation with this answer keeps a file under a digest
abbrev pub keeps_by : List ℕ → Op → Answer (List ℕ) → Bool
keeps_by digest (StageKeep wanted) Kept = bytes_eq digest wanted
keeps_by digest op answer = false

-- whether a turn does
abbrev pub keeps : List ℕ → Turn → Bool
keeps digest t = keeps_by digest t.op t.answer

-- whether two paths have the same names
abbrev pub is_same_path : Names → Names → Bool
is_same_path = pointwise (pointwise ◌==◌)

-- whether a problem stands at a path
abbrev pub is_missing : List Problem → Names → Bool
is_missing missing path = list_any (λ (problem : Problem). is_same_path problem.path path) missing

-- whether a file is kept, by its digest, or a problem stands at its path
abbrev pub is_kept_or_missing : List Turn → List Problem → Need → Bool
is_kept_or_missing turns missing need = list_any (keeps need.digest) turns || is_missing missing need.path
