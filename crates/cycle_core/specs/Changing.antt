-- The changes of a plan: which operation is asked next, and what an answer makes of them.
use Rattle.std.specs.Prelude.{◌≡◌, ◌≤◌, ℕ, suc, ◌+◌, Bool, true, false, List, [], ◌∷◌, drop, length, map, Option, None, if◌then◌else◌}
use Rattle.std.specs.List.{filter, flat_map}
use Rattle.std.specs.Option.{option_map}
use Rattle.entry_tree.specs.Tree.{ByPath}
use Rattle.entry_tree.specs.declared.entry.Stamp.{Stamp}
use Rattle.entry_tree.specs.declared.side.Side.{Side}
use Rattle.mode_rules.specs.Laws.{is_of}
use Rattle.mode_rules.specs.declared.ancestor_line.AncestorLine.{AncestorLine}
use Rattle.mode_rules.specs.declared.change.Change.{Change}
use Rattle.mode_rules.specs.declared.problem.Problem.{Problem}
use Rattle.roots_api.specs.declared.answer.Answer.{Answer}
use Rattle.roots_api.specs.declared.op.Op.{Op}
use Rattle.transition_plan.specs.Courses.{Course, course_of, next_op, taken, problems_of, without_unstaged}
use Rattle.transition_plan.specs.declared.step.Step.{Step}

-- the courses of a side's changes among these, in order, of which nothing is answered yet
abbrev pub courses_on : Side → ByPath Stamp → List Change → List Course
courses_on side stamps changes = map (course_of stamps) (filter (λ (change : Change). is_of side change.side) changes)

abbrev pub has_none : List Step → Bool
has_none [] = true
has_none (step ∷ steps) = false

-- whether a course asks nothing further
abbrev pub is_over : Course → Bool
is_over course = has_none course.rest

-- what a course asks next, and of which side
abbrev pub asked_by : Course → Option (Side × Op)
asked_by course = option_map (λ op. (course.side, op)) (next_op course)

-- WHAT IS ASKED NEXT: the next operation of the first course that isn't over
abbrev pub asked : List Course → Option (Side × Op)
asked [] = None
asked (course ∷ courses) = if is_over course then asked courses else asked_by course

-- the courses once that is answered; None is want of memory
abbrev pub answered : List Course → Option (Answer (List ℕ)) → List Course
answered [] answer = []
answered (course ∷ courses) answer = if is_over course then course ∷ answered courses answer else taken course answer ∷ courses

-- the course once it is known which files of the side weren't staged
abbrev pub staged_on : Side → List Problem → Course → Course
staged_on side missing course = if is_of side course.side then without_unstaged course missing else course

-- the courses then
abbrev pub all_staged : Side → List Problem → List Course → List Course
all_staged side missing courses = map (staged_on side missing) courses

-- the lines of all operations that are done, in order
abbrev pub all_landed : List Course → List AncestorLine
all_landed courses = flat_map (λ (course : Course). course.landed) courses

-- the problems of all operations that weren't done, in order
abbrev pub all_problems : List Course → List Problem
all_problems courses = flat_map problems_of courses

-- how many courses at the front are over
abbrev pub over : List Course → ℕ
over [] = 0
over (course ∷ courses) = if is_over course then suc (over courses) else 0

-- all courses before a place are over, and so as many at the front as from there on
abbrev pub IsOverTo : ℕ → List Course → Type 0
IsOverTo at courses = (at ≤ length courses) × (over courses ≡ at + over (drop at courses))
