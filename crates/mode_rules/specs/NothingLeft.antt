-- When there is nothing to do.
use Rattle.std.specs.Prelude.{◌≡◌, [], None}
use Rattle.std.specs.FinMap as trees
use Rattle.entry_tree.specs.Tree.{Names, ByPath}
use Rattle.entry_tree.specs.declared.atom.Atom.{Atom}
use Rattle.mode_rules.specs.declared.mode.Mode.{Mode}
use Rattle.mode_rules.specs.declared.plan.Plan.{Plan}
use Rattle.mode_rules.specs.Plans.{plan_of}
use Rattle.mode_rules.specs.Trees.{Trees, compared}

-- with what is untracked read as nothing, the side holds what the ancestor holds
abbrev pub AgreesWith : ByPath Atom → ByPath Atom → Type 0
AgreesWith ancestor side = (path : Names) → compared (trees.get side path) ≡ trees.get ancestor path

-- All lists of the plan are empty, and nothing halts it.
pub record IsNothing (plan : Plan) : Type 0 where
  pub halt : plan.halt ≡ None
  pub changes : plan.changes ≡ []
  pub agreed : plan.agreed ≡ []
  pub conflicts : plan.conflicts ≡ []

-- where both sides agree with the ancestor, there is nothing to do
abbrev pub LeavesNothing : Mode → Type 0
LeavesNothing mode = (t : Trees) → AgreesWith t.ancestor t.alpha → AgreesWith t.ancestor t.beta → IsNothing (plan_of mode t)
