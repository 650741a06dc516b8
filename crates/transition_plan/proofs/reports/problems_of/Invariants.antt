use Rattle.std.proofs.Common.{◌≡◌, ◌++◌, drop, map}
use Rattle.transition_plan.specs.Courses.{problem_of}
use Rattle.transition_plan.proofs.reports.problems_of.Given as goal

-- the problems so far, and those to come
abbrev pub invariant-all : goal.invariant-all
invariant-all l = l.problems ++ map (problem_of l.side l.undone) (drop l.missed-index l.undone) ≡ map (problem_of l.side l.undone) l.undone
