use Rattle.std.proofs.Common.{◌≡◌}
use Rattle.std.specs.List.{filter, list_any}
use Rattle.mode_rules.specs.Halts.{is_at_top, top_of, counts}
use Rattle.mode_rules.proofs.halts.has_top.Given as goal

-- what is left decides as all does
abbrev pub invariant-entries : goal.invariant-entries
invariant-entries l = list_any (λ e. counts e.1) (filter (λ e. is_at_top e.0) l.path-iterator) ≡ list_any (λ e. counts e.1) (top_of l.tree)
