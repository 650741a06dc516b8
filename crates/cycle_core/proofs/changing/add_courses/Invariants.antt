use Rattle.std.proofs.Common.{◌≡◌, ◌++◌, drop}
use Rattle.cycle_core.specs.Changing.{courses_on}
use Rattle.cycle_core.proofs.changing.add_courses.Given as goal

-- the courses so far, and those to come
abbrev pub invariant-loop-change : goal.invariant-loop-change
invariant-loop-change l =
    l.courses.items ++ courses_on l.side l.stamps (drop l.change-index l.changes) ≡ l.fn.courses.items ++ courses_on l.side l.stamps l.changes
