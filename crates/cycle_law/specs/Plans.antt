-- What a cycle is to do, by its ancestor and what it saw.
use Rattle.std.specs.Prelude.{Bool, not, ◌&&◌, List, take, Option, Some, None, is_some}
use Rattle.std.specs.FinMap as map
use Rattle.std.specs.List.{filter, flat_map}
use Rattle.entry_tree.specs.Tree.{ByPath}
use Rattle.entry_tree.specs.declared.atom.Atom.{Atom}
use Rattle.entry_tree.specs.declared.side.Side.{Side}
use Rattle.entry_tree.specs.declared.side.Side.TheVariants.{Alpha, Beta}
use Rattle.frame_text.specs.Folds.{Folded, fold_of}
use Rattle.frame_text.specs.declared.payload.Payload.{Payload}
use Rattle.mode_rules.specs.Laws.{is_of}
use Rattle.mode_rules.specs.Plans.{plan_of}
use Rattle.mode_rules.specs.Trees.{Trees}
use Rattle.mode_rules.specs.declared.change.Change.{Change}
use Rattle.mode_rules.specs.declared.plan.Plan.{Plan}
use Rattle.transition_plan.specs.Stepping.{steps_of}
use Rattle.transition_plan.specs.declared.step.Step.{Step}
use Rattle.cycle_law.specs.Cycles.{Session, Cycle, Ground, Traces}
use Rattle.cycle_law.specs.Saw.{saw, stamps_seen, is_whole_on}

-- the tree that some frames come to; nothing where they have no fold
abbrev pub tree_of : Option Folded → ByPath Atom
tree_of None = map.empty
tree_of (Some folded) = folded.tree

-- THE ANCESTOR OF A CYCLE: the fold of so many first frames as its base says
abbrev pub ancestor_of : List Payload → Cycle → ByPath Atom
ancestor_of frames c = tree_of (fold_of (take c.base frames))

-- what a cycle of a session stood on
abbrev pub ground_of : Traces → Cycle → Ground
ground_of t c = record { alpha = t.alpha; beta = t.beta; ancestor = ancestor_of t.frames c }

module _ (session : Session) (g : Ground) (c : Cycle) where
  -- what the plan is made of
  abbrev pub sight : Trees
  sight = record { ancestor = g.ancestor; alpha = saw session g c Alpha; beta = saw session g c Beta }

  -- THE PLAN OF A CYCLE, by the mode's table
  abbrev pub plan : Plan
  plan = plan_of session.mode sight

  -- whether it may do anything: its two scans were whole, and the plan has no halt
  abbrev pub may_act : Bool
  may_act = is_whole_on session g c Alpha && (is_whole_on session g c Beta && not (is_some plan.halt))

  -- the changes of a side, in order
  abbrev pub changes_of : Side → List Change
  changes_of side = filter (λ (change : Change). is_of side change.side) plan.changes

  -- the steps of a side's changes, in order, each with what the scan expects
  abbrev pub steps_on : Side → List Step
  steps_on side = flat_map (steps_of (stamps_seen session g c side)) (changes_of side)
