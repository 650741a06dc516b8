-- Lists of operations of a change with their answers. They know no machine.
use Rattle.std.specs.Prelude.{◌≡◌, ◌⊎◌, ℕ, ◌+◌, List, [], ◌∷◌, Option, Some}
use Rattle.roots_api.specs.declared.answer.Answer.{Answer}
use Rattle.roots_api.specs.declared.op.Op.{Op}
use Rattle.transition_plan.specs.Courses.{Course, fate_of, next_op, taken}
use Rattle.transition_plan.specs.declared.fate.Fate.{Fate}
use Rattle.transition_plan.specs.declared.fate.Fate.TheVariants.{Landed, Ended, Missed}

-- an operation that was asked, and its answer; none is want of memory
pub record Turn : Type 0 where
  pub op : Op
  pub answer : Option (Answer (List ℕ))

-- in each turn that is asked which is asked next in the course
abbrev pub AreTurns : Course → List Turn → Type 0
AreTurns course [] = Unit {0}
AreTurns course (t ∷ ts) = (next_op course ≡ Some t.op) × AreTurns (taken course t.answer) ts

-- what a course comes to with some turns
abbrev pub course_with : Course → List Turn → Course
course_with course [] = course
course_with course (t ∷ ts) = course_with (taken course t.answer) ts

-- how many lines a fate gives
abbrev pub lines_of : Fate → ℕ
lines_of Landed = 1
lines_of Ended = 0
lines_of (Missed why) = 0

-- how many operations are done
abbrev pub count_done : List Turn → ℕ
count_done [] = 0
count_done (t ∷ ts) = lines_of (fate_of t.answer) + count_done ts

-- these are some of those, in the same order
abbrev pub IsPart : {X : Type 0} → List X → List X → Type 0
IsPart [] ys = Unit {0}
IsPart (x ∷ xs) [] = ⊥
IsPart (x ∷ xs) (y ∷ ys) = ((x ≡ y) × IsPart xs ys) ⊎ IsPart (x ∷ xs) ys
