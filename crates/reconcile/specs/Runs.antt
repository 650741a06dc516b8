-- Runs: a row, and the rows behind it that are decided with it, in path order.
use Rattle.std.specs.Prelude.{ℕ, Bool, ◌&&◌, ◌||◌, not, List, [], ◌∷◌, map, Option, Some, None, if◌then◌else◌}
use Rattle.std.specs.List.{filter, filter_map, list_all, prefix_len}
use Rattle.std.specs.Option.{option_map}
use Rattle.sync_path.specs.Path.{is_under}
use Rattle.entry_tree.specs.Tree.{Names}
use Rattle.entry_tree.specs.declared.side.Side.{Side}
use Rattle.entry_tree.specs.declared.side.Side.TheVariants.{Alpha, Beta}
use Rattle.mode_rules.specs.declared.mode.Mode.{Mode}
use Rattle.mode_rules.specs.declared.conflict.Conflict.{Conflict}
use Rattle.mode_rules.specs.declared.conflict.Reason.{Reason}
use Rattle.mode_rules.specs.declared.comparing.Comparison.{Comparison}
use Rattle.mode_rules.specs.declared.verdict.Verdict.{Verdict}
use Rattle.mode_rules.specs.Trees.{Trees, compared, same_there, holds_folder}
use Rattle.mode_rules.specs.Verdicts.{first_case, reason_of}
use Rattle.mode_rules.specs.Plans.{points_of, change_at, line_at, conflict_at}
use Rattle.reconcile.specs.declared.decided.Decided.{Decided}
use Rattle.reconcile.specs.Rows.{PathThree, on_side}

-- no item, or one
abbrev pub listed : {X : Type 0} → Option X → List X
listed None = []
listed (Some x) = x ∷ []

-- what is decided at all points
abbrev pub decided_of : Mode → Trees → Decided
decided_of mode t = record {
  changes = filter_map (change_at mode t) (points_of t);
  agreed = filter_map (line_at mode t) (points_of t);
  conflicts = filter_map (conflict_at mode t) (points_of t);
}

-- at the row's path the side is as the ancestor
abbrev pub is_same_row : Side → PathThree → Bool
is_same_row side row = same_there (compared (on_side row.1 side)) row.1.ancestor

-- at the row's path the side holds nothing, or what the ancestor holds there
abbrev pub is_less_row : Side → PathThree → Bool
is_less_row side row = same_there (compared (on_side row.1 side)) None || is_same_row side row

-- how many of the rows behind a row are decided with it: none where both sides hold a folder, else those that lie below it
abbrev pub row_run_len : PathThree → List PathThree → ℕ
row_run_len row below =
    if holds_folder row.1.alpha && holds_folder row.1.beta then 0
    else prefix_len (λ other. is_under other.0 row.0) below

-- how a side stands to the ancestor, at each row of a run
abbrev pub row_comparison : Side → List PathThree → Comparison
row_comparison side run = record { same = list_all (is_same_row side) run; less = list_all (is_less_row side) run }

-- what is decided at a row, by the rows of its run
abbrev pub row_verdict : Mode → List PathThree → PathThree → Verdict
row_verdict mode run row = first_case mode row.1.alpha row.1.beta (row_comparison Alpha run) (row_comparison Beta run)

-- the paths of a run at which a side differs from the ancestor
abbrev pub row_differing : Side → List PathThree → List Names
row_differing side run = map (λ row. row.0) (filter (λ row. not (is_same_row side row)) run)

-- a conflict, with the paths of the run at which each side differs from the ancestor
abbrev pub row_conflict : List PathThree → PathThree → Reason → Conflict
row_conflict run row reason = record { at = row.0; reason = reason; alpha = row_differing Alpha run; beta = row_differing Beta run }

-- the conflict that a decision reports
abbrev pub row_conflict_by : List PathThree → PathThree → Verdict → Option Conflict
row_conflict_by run row v = option_map (row_conflict run row) (reason_of v)
