use Rattle.std.proofs.Common.{◌≡◌, ◌+◌, drop}
use Rattle.std.specs.List.{prefix_len}
use Rattle.sync_path.specs.Path.{is_under}
use Rattle.reconcile.proofs.runs.under_len.Given as goal

-- the count so far is the index, and with those to come it is the whole
abbrev pub invariant-below : goal.invariant-below
invariant-below l =
    (l.count ≡ l.row-index)
    × (l.count + prefix_len (λ row. is_under row.0 l.path) (drop l.row-index l.below) ≡ prefix_len (λ row. is_under row.0 l.path) l.below)
