-- In which order a cycle changes a side, on what each operation rests, and what it places.
use Rattle.std.specs.Prelude.{ℕ, Bool, true, false, not, ◌&&◌, List, [], ◌∷◌, bytes_eq, Option, Some, if◌then◌else◌, ◌||◌}
use Rattle.std.specs.FinMap as map
use Rattle.std.specs.List.{filter, list_all, list_any}
use Rattle.entry_tree.specs.Side.{other_side}
use Rattle.entry_tree.specs.Tree.{Names}
use Rattle.entry_tree.specs.declared.atom.Atom.{Atom}
use Rattle.entry_tree.specs.declared.atom.Atom.TheVariants as atom
use Rattle.entry_tree.specs.declared.entry.Entry.TheVariants as entry
use Rattle.entry_tree.specs.declared.entry.Stamp.{Stamp}
use Rattle.entry_tree.specs.declared.side.Side.{Side}
use Rattle.mode_rules.specs.declared.change.Change.{Change}
use Rattle.roots_api.specs.Answers.{is_done}
use Rattle.roots_api.specs.Steps.{is_changing}
use Rattle.roots_api.specs.declared.event.Span.{Span}
use Rattle.roots_api.specs.declared.op.Op.{Op}
use Rattle.roots_api.specs.declared.op.Op.TheVariants.{StageClear, StageKeep, Place, SetExec}
use Rattle.scan_laws.specs.Seen.{Heard}
use Rattle.transition_plan.specs.Resting.{rests_on}
use Rattle.transition_plan.specs.Stepping.{steps_of}
use Rattle.transition_plan.specs.declared.step.Step.{Step}
use Rattle.cycle_law.specs.Cycles.{Session, Cycle, Ground, log_of, heard_on}
use Rattle.cycle_law.specs.Licences.{is_there}
use Rattle.cycle_law.specs.Plans.{changes_of, steps_on}
use Rattle.cycle_law.specs.Sameness.{same_op}
use Rattle.cycle_law.specs.Saw.{saw_at, stamps_seen}

-- the operations that a cycle asked on a side and that change a tree, with their answers
abbrev pub changing_on : Ground → Cycle → Side → List (Heard Span)
changing_on g c side = filter (λ (h : Heard Span). is_changing h.op) (heard_on c (log_of g side))

-- whether these operations stand among the steps in their order; steps may be left out
abbrev pub are_in_order : List (Heard Span) → List Step → Bool
are_in_order [] steps = true
are_in_order (h ∷ hs) [] = false
are_in_order (h ∷ hs) (step ∷ steps) = if same_op h.op step.op then are_in_order hs steps else are_in_order (h ∷ hs) steps

-- whether an operation was done before
abbrev pub was_done : List (Heard Span) → Op → Bool
was_done before op = list_any (λ (h : Heard Span). is_done h.answer && same_op h.op op) before

-- the digests that are kept once an operation was answered, in the staging of one cycle
abbrev pub kept_with : List (List ℕ) → Op → Bool → List (List ℕ)
kept_with kept StageClear done = if done then [] else kept
kept_with kept (StageKeep digest) done = if done then digest ∷ kept else kept
kept_with kept op done = kept

-- whether a digest is kept
abbrev pub is_kept : List (List ℕ) → List ℕ → Bool
is_kept kept digest = list_any (bytes_eq digest) kept

-- whether the content that an operation places is kept
abbrev pub has_content : List (List ℕ) → Op → Bool
has_content kept (Place path digest exec expected) = is_kept kept digest
has_content kept op = true

-- whether a change's own file is kept, if it is to have one; one operation that sets a bit needs none
abbrev pub has_own_file : List (List ℕ) → Option Atom → Op → Bool
has_own_file kept new (SetExec path expected on) = true
has_own_file kept (Some (atom.File digest exec)) op = is_kept kept digest
has_own_file kept new op = true

-- whether all operations of a change on which one rests were done before
abbrev pub rests_on_done : List Step → List (Heard Span) → Op → Bool
rests_on_done steps before op = list_all (λ (step : Step). not (rests_on op step.op) || was_done before step.op) steps

-- whether an operation is one of a change, and all that it rests on is so
abbrev pub may_be_asked : (Change → List Step) → List (List ℕ) → List (Heard Span) → Op → Change → Bool
may_be_asked steps kept before op change =
    list_any (λ (step : Step). same_op step.op op) (steps change)
    && (rests_on_done (steps change) before op && (has_content kept op && has_own_file kept (map.get change.new change.at) op))

-- each operation that changes a tree is one of some change, and all that it rests on was so when it was asked; `before` are those asked before, and
-- `kept` the digests that are kept by then
abbrev pub all_rest : (Change → List Step) → List Change → List (List ℕ) → List (Heard Span) → List (Heard Span) → Bool
all_rest steps changes kept before [] = true
all_rest steps changes kept before (h ∷ hs) =
    (not (is_changing h.op) || list_any (may_be_asked steps kept before h.op) changes)
    && all_rest steps changes (kept_with kept h.op (is_done h.answer)) (h ∷ before) hs

-- whether an operation asks for the atom that was seen of the other side: a Place by its digest and bit, a SetExec by the digest of the file that it
-- expects and its bit
abbrev pub asks_as_seen : (Names → Option Atom) → (Stamp → List ℕ) → Op → Bool
asks_as_seen other digest (Place path wanted exec expected) = is_there (other path) (atom.File wanted exec)
asks_as_seen other digest (SetExec path (entry.File stamp exec) on) = is_there (other path) (atom.File (digest stamp) on)
asks_as_seen other digest op = true

module _ (session : Session) (g : Ground) (c : Cycle) (side : Side) where
  -- IN ORDER: what a cycle changed on a side are operations of its changes there, in their order
  abbrev pub changes_in_order : Bool
  changes_in_order = are_in_order (changing_on g c side) (steps_on session g c side)

  -- AT REST: each only where all that it rests on was done before, or is kept
  abbrev pub changes_at_rest : Bool
  changes_at_rest = all_rest (steps_of (stamps_seen session g c side)) (changes_of session g c side) [] [] (heard_on c (log_of g side))

  -- PLACED AS SEEN: each Place and each SetExec asks for the atom that the cycle saw of the other side
  abbrev pub places_as_seen : Bool
  places_as_seen = list_all (λ (h : Heard Span). asks_as_seen (saw_at session g c (other_side side)) (log_of g side).digest h.op) (changing_on g c side)
