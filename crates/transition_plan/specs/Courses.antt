-- The course of a change: what is asked next, what landed and what wasn't done, by the answers so far.
use lib.Pointwise.{pointwise}
use Rattle.std.specs.Prelude.{ℕ, ◌==◌, Bool, false, not, ◌&&◌, List, [], ◌∷◌, ◌++◌, map, Option, Some, None, if◌then◌else◌}
use Rattle.std.specs.List.{filter, list_any, find}
use Rattle.std.specs.Option.{option_map_or}
use Rattle.entry_tree.specs.Tree.{Names, ByPath}
use Rattle.entry_tree.specs.declared.entry.Stamp.{Stamp}
use Rattle.entry_tree.specs.declared.side.Side.{Side}
use Rattle.mode_rules.specs.declared.ancestor_line.AncestorLine.{AncestorLine}
use Rattle.mode_rules.specs.declared.ancestor_line.AncestorLine.TheVariants.{Set, Drop}
use Rattle.mode_rules.specs.declared.change.Change.{Change}
use Rattle.mode_rules.specs.declared.problem.Cause.{Cause}
use Rattle.mode_rules.specs.declared.problem.Cause.TheVariants as cause
use Rattle.mode_rules.specs.declared.problem.Problem.{Problem}
use Rattle.roots_api.specs.declared.answer.Answer.{Answer}
use Rattle.roots_api.specs.declared.answer.Answer.TheVariants.{DigestDiffers, Done, NoParent, Differs, NoLink, NoExec, NotEmpty, NotStaged}
use Rattle.roots_api.specs.declared.op.Op.{Op}
use Rattle.roots_api.specs.declared.op.Op.TheVariants.{Place}
use Rattle.transition_plan.specs.Resting.{rests_on}
use Rattle.transition_plan.specs.Stepping.{steps_of}
use Rattle.transition_plan.specs.declared.fate.Fate.{Fate}
use Rattle.transition_plan.specs.declared.fate.Fate.TheVariants.{Landed, Ended, Missed}
use Rattle.transition_plan.specs.declared.step.Step.{Step}
use Rattle.transition_plan.specs.declared.undone.Undone.{Undone}

-- The course of a change: its side and path, the steps that are left, the next one first, the lines of those that are done, and those that weren't
-- done, in order.
pub record Course : Type 0 where
  pub side : Side
  pub at : Names
  pub rest : List Step
  pub landed : List AncestorLine
  pub undone : List Undone

-- What an answer means for an operation that changes a tree; None is want of memory. A root that is full, or that failed, is asked nothing further.
abbrev pub fate_of : Option (Answer (List ℕ)) → Fate
fate_of None = Missed cause.NoMemory
fate_of (Some (Done stamp)) = Landed
fate_of (Some (Differs found)) = Missed cause.Differs
fate_of (Some NotEmpty) = Missed cause.NotEmpty
fate_of (Some (NoParent found)) = Missed cause.NoParent
fate_of (Some NoLink) = Missed cause.NoLink
fate_of (Some NoExec) = Missed cause.NoExec
fate_of (Some (DigestDiffers wanted got)) = Missed (cause.DigestDiffers wanted got)
fate_of (Some NotStaged) = Missed cause.NotStaged
fate_of (Some answer) = Ended

-- the path of a line, which is that of its operation
abbrev pub line_path : AncestorLine → Names
line_path (Set path atom) = path
line_path (Drop path) = path

-- what is written down of a step that wasn't done; no cause where it was skipped
abbrev pub not_done : Option Cause → Step → Undone
not_done why step = record { path = line_path step.line; op = step.op; cause = why }

-- whether an operation rests on one of these
abbrev pub is_blocked : List Undone → Op → Bool
is_blocked undone op = list_any (λ (u : Undone). rests_on op u.op) undone

-- whether the first of these steps rests on one that wasn't done
abbrev pub is_first_blocked : List Undone → List Step → Bool
is_first_blocked undone [] = false
is_first_blocked undone (step ∷ rest) = is_blocked undone step.op

-- the course with these steps left, where those at the front are skipped that rest on one that wasn't done
abbrev pub settled : Side → Names → List AncestorLine → List Undone → List Step → Course
settled side at landed undone [] = record { side = side; at = at; rest = []; landed = landed; undone = undone }
settled side at landed undone (step ∷ rest) =
    if is_blocked undone step.op then settled side at landed (undone ++ not_done None step ∷ []) rest else
    record { side = side; at = at; rest = step ∷ rest; landed = landed; undone = undone }

-- the course of a change of which nothing is answered yet
abbrev pub course_of : ByPath Stamp → Change → Course
course_of stamps change = record { side = change.side; at = change.at; rest = steps_of stamps change; landed = []; undone = [] }

-- whether two paths have the same names
abbrev pub is_same_path : Names → Names → Bool
is_same_path = pointwise (pointwise ◌==◌)

-- whether a staging problem stands at a path
abbrev pub is_missing : List Problem → Names → Bool
is_missing missing path = list_any (λ (problem : Problem). is_same_path problem.path path) missing

-- whether an operation places a file that wasn't staged
abbrev pub is_unstaged : List Problem → Op → Bool
is_unstaged missing (Place path digest executable expected) = is_missing missing path
is_unstaged missing op = false

-- whether an operation places a file at the path
abbrev pub is_placed_at : Names → Op → Bool
is_placed_at at (Place path digest executable expected) = is_same_path path at
is_placed_at at op = false

-- whether a step places, at the path, a file that wasn't staged
abbrev pub is_unstaged_at : List Problem → Names → Step → Bool
is_unstaged_at missing at step = is_placed_at at step.op && is_missing missing at

-- The course once it is known which files weren't staged. Their Places aren't made; and where the file at the change's own path is among them, no
-- operation is.
abbrev pub without_unstaged : Course → List Problem → Course
without_unstaged course missing =
    record { side = course.side; at = course.at; rest = if list_any (is_unstaged_at missing course.at) course.rest then [] else filter (λ (step : Step). not (is_unstaged missing step.op)) course.rest; landed = course.landed; undone = course.undone }

-- the operation that stands first in a list of steps
abbrev pub first_op : List Step → Option Op
first_op [] = None
first_op (step ∷ rest) = Some step.op

-- the operation that is asked next
abbrev pub next_op : Course → Option Op
next_op course = first_op course.rest

-- the course once the next step has met its fate
abbrev pub met : Course → List Step → Fate → Course
met course [] fate = course
met course (step ∷ rest) Landed = settled course.side course.at (course.landed ++ step.line ∷ []) course.undone rest
met course (step ∷ rest) Ended = record { side = course.side; at = course.at; rest = []; landed = course.landed; undone = course.undone }
met course (step ∷ rest) (Missed why) = settled course.side course.at course.landed (course.undone ++ not_done (Some why) step ∷ []) rest

-- the course once the next operation is answered; None is want of memory
abbrev pub taken : Course → Option (Answer (List ℕ)) → Course
taken course answer = met course course.rest (fate_of answer)

-- the path of the first that wasn't done among those on which an operation rests
abbrev pub followed : List Undone → Undone → Names
followed undone u = option_map_or (λ (first : Undone). first.path) (find (λ (first : Undone). rests_on u.op first.op) undone) u.path

-- why an operation wasn't done
abbrev pub cause_of : List Undone → Undone → Cause
cause_of undone u = option_map_or (λ (why : Cause). why) u.cause (cause.Skipped (followed undone u))

-- the problem of an operation that wasn't done
abbrev pub problem_of : Side → List Undone → Undone → Problem
problem_of side undone u = record { side = side; path = u.path; cause = cause_of undone u }

-- the problems of a change, in the order of its operations
abbrev pub problems_of : Course → List Problem
problems_of course = map (problem_of course.side course.undone) course.undone
