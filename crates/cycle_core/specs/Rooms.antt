-- The room that is made for lines before anything is changed.
use Rattle.std.specs.Prelude.{◌≤◌, ℕ, ◌+◌, List, [], ◌∷◌, length}
use Rattle.std.specs.Global.{Vec}
use Rattle.std.specs.Vec.{vec_capacity}
use Rattle.mode_rules.specs.declared.ancestor_line.AncestorLine.{AncestorLine}
use Rattle.transition_plan.specs.Courses.{Course}

-- how many lines of a course there may be at most in the end
abbrev pub most_lines : Course → ℕ
most_lines course = length course.landed + length course.rest

abbrev pub most_of : List Course → ℕ
most_of [] = 0
most_of (course ∷ courses) = most_lines course + most_of courses

-- there is room behind these lines for all that may land
abbrev pub HasRoom : Vec AncestorLine → List Course → Type 0
HasRoom lines courses = length lines.items + most_of courses ≤ vec_capacity lines
