-- The laws of a change's operations.
use Rattle.std.specs.Prelude.{◌≡◌, ◌+◌, ◌≤◌, List, length, map}
use Rattle.std.specs.FinMap as finite
use Rattle.std.specs.List.{AllByRecursion}
use Rattle.entry_tree.specs.Tree.{ByPath}
use Rattle.entry_tree.specs.declared.entry.Stamp.{Stamp}
use Rattle.mode_rules.specs.declared.change.Change.{Change}
use Rattle.transition_plan.specs.Courses.{course_of}
use Rattle.transition_plan.specs.Stepping.{steps_of}
use Rattle.transition_plan.specs.declared.step.Step.{Step}
use Rattle.transition_laws.specs.Taking.{TakesOnlySeen}
use Rattle.transition_laws.specs.Turns.{Turn, AreTurns, IsPart, count_done, course_with}

-- each operation of a change takes away only what was seen
abbrev pub EachTakesOnlySeen : Type 0
EachTakesOnlySeen = (stamps : ByPath Stamp) (change : Change) → AllByRecursion (λ (step : Step). TakesOnlySeen stamps change step.op) (steps_of stamps change)

-- there are no more of them than entries
abbrev pub AreFew : Type 0
AreFew = (stamps : ByPath Stamp) (change : Change) → length (steps_of stamps change) ≤ length (finite.entries change.old) + length (finite.entries change.new)

-- what is asked are operations of the change, in their order
abbrev pub AskInOrder : Type 0
AskInOrder =
    (stamps : ByPath Stamp) (change : Change) (turns : List Turn) → AreTurns (course_of stamps change) turns
    → IsPart (map (λ (t : Turn). t.op) turns) (map (λ (step : Step). step.op) (steps_of stamps change))

-- one line lands for each that is done
abbrev pub EachIsCounted : Type 0
EachIsCounted =
    (stamps : ByPath Stamp) (change : Change) (turns : List Turn) → AreTurns (course_of stamps change) turns
    → length (course_with (course_of stamps change) turns).landed ≡ count_done turns
