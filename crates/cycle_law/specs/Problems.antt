-- Which problems a cycle's plan and its log give.
use Rattle.std.specs.Prelude.{Bool, not, ◌&&◌, ◌||◌, List, [], ◌∷◌, ◌++◌, map, is_some, Option, Some, None, if◌then◌else◌}
use Rattle.std.specs.FinMap as map_of
use Rattle.std.specs.List.{filter_map, find, flat_map, list_all, list_any}
use Rattle.std.specs.Option.{option_map_or}
use Rattle.entry_tree.specs.Tree.{Names}
use Rattle.entry_tree.specs.declared.atom.Atom.{Atom}
use Rattle.entry_tree.specs.declared.atom.Atom.TheVariants as atom
use Rattle.entry_tree.specs.declared.problem_kind.ProblemKind.{ProblemKind}
use Rattle.entry_tree.specs.declared.problem_kind.ProblemKind.TheVariants as kind
use Rattle.entry_tree.specs.declared.side.Side.{Side}
use Rattle.mode_rules.specs.declared.change.Change.{Change}
use Rattle.mode_rules.specs.declared.problem.Cause.{Cause}
use Rattle.mode_rules.specs.declared.problem.Cause.TheVariants as cause
use Rattle.mode_rules.specs.declared.problem.Problem.{Problem}
use Rattle.roots_api.specs.declared.event.Span.{Span}
use Rattle.roots_api.specs.declared.op.Op.{Op}
use Rattle.scan_laws.specs.Seen.{Heard}
use Rattle.transition_plan.specs.Courses.{course_of, without_unstaged, not_done, is_blocked, problem_of}
use Rattle.transition_plan.specs.declared.step.Step.{Step}
use Rattle.transition_plan.specs.declared.undone.Undone.{Undone}
use Rattle.cycle_law.specs.Cycles.{Session, Cycle, Ground}
use Rattle.cycle_law.specs.Ordering.{changing_on, was_done}
use Rattle.cycle_law.specs.Plans.{changes_of}
use Rattle.cycle_law.specs.Sameness.{same_op}
use Rattle.cycle_law.specs.Saw.{saw, stamps_seen}
use Rattle.cycle_law.specs.Staged.{cause_of, problem_for, staging_problems}
use Rattle.cycle_law.specs.Unlogged.{Unlogged, unheard_on}

-- ---- what wasn't seen

-- why a file wasn't seen
abbrev pub seen_cause : ProblemKind → Cause
seen_cause kind.Changed = cause.Changed
seen_cause kind.TooLarge = cause.TooLarge
seen_cause kind.Failed = cause.Failed

-- the cause that an atom shows, if it is a problem
abbrev pub shown_cause : Atom → Option Cause
shown_cause (atom.Problem why) = Some (seen_cause why)
shown_cause atom.Dir = None
shown_cause (atom.File digest exec) = None
shown_cause (atom.Link text) = None
shown_cause atom.Untracked = None

-- THE PATHS SEEN AS PROBLEMS on a side, in path order
abbrev pub seen_problems : Session → Ground → Cycle → Side → List Problem
seen_problems session g c side = filter_map (λ (e : Names × Atom). problem_for side e.0 (shown_cause e.1)) (map_of.entries (saw session g c side))

-- ---- what wasn't done

-- whether an operation was asked, and whether it is one of these
abbrev pub was_asked : List (Heard Span) → Op → Bool
was_asked heard op = list_any (λ (h : Heard Span). same_op h.op op) heard

abbrev pub is_starved : List Op → Op → Bool
is_starved starved op = list_any (λ (o : Op). same_op o op) starved

-- `heard` are the operations of a cycle that changed a side, with their answers, and `starved` those that met want of memory
module _ (heard : List (Heard Span)) (starved : List Op) where
  -- why an operation wasn't done: by its answer, if it was asked and answered, and else for want of memory, if it met that
  abbrev pub cause_met : Op → Option Cause
  cause_met op = option_map_or (λ (h : Heard Span). cause_of h.answer) (find (λ (h : Heard Span). same_op h.op op) heard) (if is_starved starved op then Some cause.NoMemory else None)

  -- What is written down of the next step of a change, behind those before it that weren't done: its cause; or that it was skipped, if it wasn't asked
  -- and rests on one of them.
  abbrev pub met : List Undone → Step → List Undone
  met undone step =
      if is_some (cause_met step.op) then not_done (cause_met step.op) step ∷ []
      else (if not (was_asked heard step.op) && is_blocked undone step.op then not_done None step ∷ [] else [])

  abbrev pub undone_from : List Undone → List Step → List Undone
  undone_from undone [] = undone
  undone_from undone (step ∷ steps) = undone_from (undone ++ met undone step) steps

  -- whether each of these steps was done, or is among those that weren't
  abbrev pub are_accounted : List Undone → List Step → Bool
  are_accounted undone steps = list_all (λ (step : Step). was_done heard step.op || list_any (λ (u : Undone). same_op u.op step.op) undone) steps

module _ (session : Session) (g : Ground) (c : Cycle) (u : Unlogged) (side : Side) where
  -- The steps of a change, less those for which a staging problem stands: all of them, where the file at the change's own path wasn't staged, and else
  -- the Place of each file that wasn't.
  abbrev pub steps_left : Change → List Step
  steps_left change = (without_unstaged (course_of (stamps_seen session g c side) change) (staging_problems session g c side)).rest

  -- those that have a problem, in order
  abbrev pub undone_of : Change → List Undone
  undone_of change = undone_from (changing_on g c side) (unheard_on u side).starved [] (steps_left change)

  -- THE PROBLEMS OF A CHANGE, in the order of its operations. A skipped one names the path of the first problem on which it rests.
  abbrev pub change_problems : Change → List Problem
  change_problems change = map (problem_of side (undone_of change)) (undone_of change)

  -- whether each operation of a change was done, or has a problem, or stands behind a staging problem
  abbrev pub is_accounted : Change → Bool
  is_accounted change = are_accounted (changing_on g c side) (unheard_on u side).starved (undone_of change) (steps_left change)

  -- the problems of all changes of the side
  abbrev pub changing_problems : List Problem
  changing_problems = flat_map change_problems (changes_of session g c side)

  -- whether all of them are accounted for
  abbrev pub are_all_accounted : Bool
  are_all_accounted = list_all is_accounted (changes_of session g c side)
