-- A staging, by what it was made of and what it was told.
use Rattle.std.specs.Prelude.{◌≡◌, ℕ, List, [], ◌∷◌, ◌++◌, Option, Some, None}
use Rattle.entry_tree.specs.declared.side.Side.{Side}
use Rattle.roots_api.specs.Answers.{IsAnswerTo}
use Rattle.roots_api.specs.declared.answer.Answer.{Answer}
use Rattle.roots_api.specs.declared.op.Op.{Op}
use Rattle.stage_core.specs.Staging.{Stand, new_stand, op_of, after, after_all}
use Rattle.stage_core.specs.declared.need.Need.{Need}

-- A staging: the side that needs the files, the files, and the answers that it took, the oldest first.
pub record StagingTold : Type 0 where
  pub side : Side
  pub needs : List Need
  pub answers : List (Answer (List ℕ))

-- a staging that was told nothing
abbrev pub new_staging : Side → List Need → StagingTold
new_staging side needs = record { side = side; needs = needs; answers = [] }

-- what a staging comes to
abbrev pub state_of : StagingTold → Stand
state_of m = after_all m.side (new_stand m.needs) m.answers

-- the staging with one answer more
abbrev pub with_answer : StagingTold → Answer (List ℕ) → StagingTold
with_answer m answer = record { side = m.side; needs = m.needs; answers = m.answers ++ answer ∷ [] }

-- this is answered to what is asked, by its row
abbrev pub IsAnswered : Option Op → Answer (List ℕ) → Type 0
IsAnswered None answer = ⊥
IsAnswered (Some op) answer = IsAnswerTo op answer

-- each of these answers what is asked at its turn
abbrev pub AreAnswered : Side → Stand → List (Answer (List ℕ)) → Type 0
AreAnswered side s [] = Unit {0}
AreAnswered side s (answer ∷ answers) = IsAnswered (op_of s) answer × AreAnswered side (after side s answer) answers

-- this is the work of a staging that was told this
pub record IsStaging (side : Side) (needs : List Need) (answers : List (Answer (List ℕ))) (work : Stand) : Type 0 where
  pub work_is : work ≡ state_of (record { side = side; needs = needs; answers = answers })
  pub answered : AreAnswered side (new_stand needs) answers
