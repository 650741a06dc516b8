-- The table over paths: what each decision gives, and the plan of all of them.
use Rattle.std.specs.Prelude.{List, Option, Some, None, if◌then◌else◌, is_some}
use Rattle.std.specs.List.{filter, filter_map}
use Rattle.std.specs.Option.{option_map}
use Rattle.std.specs.FinMap as trees
use Rattle.entry_tree.specs.Subtree.{subtree}
use Rattle.entry_tree.specs.Tree.{Names, ByPath}
use Rattle.entry_tree.specs.declared.atom.Atom.{Atom}
use Rattle.entry_tree.specs.declared.side.Side.TheVariants.{Alpha, Beta}
use Rattle.mode_rules.specs.declared.mode.Mode.{Mode}
use Rattle.mode_rules.specs.declared.conflict.Conflict.{Conflict}
use Rattle.mode_rules.specs.declared.conflict.Reason.{Reason}
use Rattle.mode_rules.specs.declared.change.Change.{Change}
use Rattle.mode_rules.specs.declared.ancestor_line.AncestorLine.{AncestorLine}
use Rattle.mode_rules.specs.declared.ancestor_line.AncestorLine.TheVariants as lines
use Rattle.mode_rules.specs.declared.plan.Plan.{Plan}
use Rattle.mode_rules.specs.declared.verdict.Verdict.{Verdict}
use Rattle.mode_rules.specs.declared.verdict.Verdict.TheVariants as verdicts
use Rattle.mode_rules.specs.Trees.{Trees, paths_of, is_point, differing, same_there}
use Rattle.mode_rules.specs.Verdicts.{verdict, reason_of}
use Rattle.mode_rules.specs.Halts.{halt_of}

-- the change by which alpha comes to hold this at and below the path
abbrev pub change_alpha : Trees → Names → ByPath Atom → Change
change_alpha t path new = record { side = Alpha; at = path; old = subtree t.alpha path; new = new }

-- the change by which beta comes to hold this at and below the path
abbrev pub change_beta : Trees → Names → ByPath Atom → Change
change_beta t path new = record { side = Beta; at = path; old = subtree t.beta path; new = new }

-- the change that a decision makes
abbrev pub change_by : Trees → Names → Verdict → Option Change
change_by t path verdicts.AlphaTakes = Some (change_alpha t path (subtree t.beta path))
change_by t path verdicts.AlphaEmptied = Some (change_alpha t path trees.empty)
change_by t path verdicts.BetaTakes = Some (change_beta t path (subtree t.alpha path))
change_by t path verdicts.BetaEmptied = Some (change_beta t path trees.empty)
change_by t path verdicts.Left = None
change_by t path verdicts.Blocked = None
change_by t path verdicts.Gone = None
change_by t path verdicts.Agreed = None
change_by t path verdicts.BetaKeeps = None
change_by t path verdicts.Both = None

-- the line by which the ancestor drops all at and below the path, where it holds something there
abbrev pub dropped : Names → Option Atom → Option AncestorLine
dropped path at_ancestor = if is_some at_ancestor then Some (lines.Drop path) else None

-- the line by which the ancestor takes what both sides hold at the path, where it doesn't hold it
abbrev pub taken : Names → Option Atom → Option Atom → Option AncestorLine
taken path at_ancestor at_sides = if same_there at_ancestor at_sides then None else option_map (lines.Set path) at_sides

-- the ancestor's line that a decision writes, by what the ancestor and alpha hold at the path
abbrev pub line_of : Names → Option Atom → Option Atom → Verdict → Option AncestorLine
line_of path at_ancestor at_alpha verdicts.Gone = dropped path at_ancestor
line_of path at_ancestor at_alpha verdicts.BetaKeeps = dropped path at_ancestor
line_of path at_ancestor at_alpha verdicts.Agreed = taken path at_ancestor at_alpha
line_of path at_ancestor at_alpha verdicts.Left = None
line_of path at_ancestor at_alpha verdicts.Blocked = None
line_of path at_ancestor at_alpha verdicts.AlphaTakes = None
line_of path at_ancestor at_alpha verdicts.BetaTakes = None
line_of path at_ancestor at_alpha verdicts.AlphaEmptied = None
line_of path at_ancestor at_alpha verdicts.BetaEmptied = None
line_of path at_ancestor at_alpha verdicts.Both = None

-- a conflict, with the paths at which each side differs from the ancestor
abbrev pub conflict : Trees → Names → Reason → Conflict
conflict t path reason =
    record { at = path; reason = reason; alpha = differing t t.alpha path; beta = differing t t.beta path }

-- the conflict that a decision reports
abbrev pub conflict_by : Trees → Names → Verdict → Option Conflict
conflict_by t path v = option_map (conflict t path) (reason_of v)

-- the paths that are decided, in path order
abbrev pub points_of : Trees → List Names
points_of t = filter (is_point t) (paths_of t)

-- what is decided at a path makes this change
unfoldable pub change_at : Mode → Trees → Names → Option Change
change_at mode t path = change_by t path (verdict mode t path)

-- it writes this line of the ancestor
unfoldable pub line_at : Mode → Trees → Names → Option AncestorLine
line_at mode t path = line_of path (trees.get t.ancestor path) (trees.get t.alpha path) (verdict mode t path)

-- it reports this conflict
unfoldable pub conflict_at : Mode → Trees → Names → Option Conflict
conflict_at mode t path = conflict_by t path (verdict mode t path)

-- what a cycle is to do: the changes, the ancestor's lines and the conflicts of the paths that are decided, each in path order
abbrev pub plan_of : Mode → Trees → Plan
plan_of mode t = record {
  halt = halt_of mode t (filter_map (change_at mode t) (points_of t));
  changes = filter_map (change_at mode t) (points_of t);
  agreed = filter_map (line_at mode t) (points_of t);
  conflicts = filter_map (conflict_at mode t) (points_of t);
}
