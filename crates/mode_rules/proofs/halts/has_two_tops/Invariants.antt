use Rattle.std.proofs.Common.{◌≡◌, ◌+◌, cond, length}
use Rattle.std.specs.List.{filter}
use Rattle.mode_rules.specs.Halts.{is_at_top, top_of}
use Rattle.mode_rules.proofs.halts.has_two_tops.Given as goal

-- the one that was met, if one was, and those to come
abbrev pub invariant-entries : goal.invariant-entries
invariant-entries l = cond l.has_one 1 0 + length (filter (λ e. is_at_top e.0) l.path-iterator) ≡ length (top_of l.tree)
