-- Runs of paths in path order: a path, and the paths behind it that are decided with it.
use Rattle.std.proofs.Common.{ℕ, not, if◌then◌else◌, List, Option}
use Rattle.std.specs.Prelude.{◌&&◌}
use Rattle.std.specs.List.{filter, list_all, prefix_len}
use Rattle.std.specs.Option.{option_map}
use Rattle.std.specs.FinMap as trees
use Rattle.sync_path.specs.Path.{is_under}
use Rattle.entry_tree.specs.Tree.{Names, ByPath}
use Rattle.entry_tree.specs.declared.atom.Atom.{Atom}
use Rattle.mode_rules.specs.declared.mode.Mode.{Mode}
use Rattle.mode_rules.specs.declared.conflict.Conflict.{Conflict}
use Rattle.mode_rules.specs.declared.conflict.Reason.{Reason}
use Rattle.mode_rules.specs.declared.comparing.Comparison.{Comparison}
use Rattle.mode_rules.specs.declared.verdict.Verdict.{Verdict}
use Rattle.mode_rules.specs.declared.ancestor_line.AncestorLine.{AncestorLine}
use Rattle.mode_rules.specs.Trees.{Trees, holds_folder, is_same_at, is_less_at}
use Rattle.mode_rules.specs.Verdicts.{first_case, reason_of}
use Rattle.mode_rules.specs.Plans.{line_of}

-- how many of the paths behind a path are decided with it: none where both sides hold a folder, else those that lie below it
abbrev pub run_len : Trees → Names → List Names → ℕ
run_len t path below =
    if holds_folder (trees.get t.alpha path) && holds_folder (trees.get t.beta path) then 0
    else prefix_len (λ p. is_under p path) below

-- how a side stands to the ancestor, at each path of a run
abbrev pub comparison_in : ByPath Atom → ByPath Atom → List Names → Comparison
comparison_in ancestor side run =
    record { same = list_all (is_same_at ancestor side) run; less = list_all (is_less_at ancestor side) run }

-- what is decided at a path, by the paths of its run
abbrev pub verdict_in : Mode → Trees → List Names → Names → Verdict
verdict_in mode t run path =
    first_case mode (trees.get t.alpha path) (trees.get t.beta path)
    (comparison_in t.ancestor t.alpha run) (comparison_in t.ancestor t.beta run)

-- a conflict, with the paths of the run at which each side differs from the ancestor
abbrev pub conflict_in : Trees → List Names → Names → Reason → Conflict
conflict_in t run path reason = record {
  at = path;
  reason = reason;
  alpha = filter (λ p. not (is_same_at t.ancestor t.alpha p)) run;
  beta = filter (λ p. not (is_same_at t.ancestor t.beta p)) run;
}

-- the conflict that a decision reports
abbrev pub conflict_by_in : Trees → List Names → Names → Verdict → Option Conflict
conflict_by_in t run path v = option_map (conflict_in t run path) (reason_of v)

-- the ancestor's line that a decision writes at a path
abbrev pub line_by : Trees → Names → Verdict → Option AncestorLine
line_by t path v = line_of path (trees.get t.ancestor path) (trees.get t.alpha path) v
