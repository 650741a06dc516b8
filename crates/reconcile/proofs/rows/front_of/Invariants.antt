use Rattle.std.proofs.Common.{◌≡◌, ◌+◌, drop}
use Rattle.reconcile.specs.Rows.{front_len, is_met}
use Rattle.reconcile.proofs.rows.front_of.Given as goal

-- the count so far is the index; with those to come it is the whole, and the row behind those is the one behind all
abbrev pub invariant-rows : goal.invariant-rows
invariant-rows l =
    (l.count ≡ l.row-index)
    × (l.count + front_len l.path (drop l.row-index l.rows) ≡ front_len l.path l.rows)
    × (is_met l.path (drop (front_len l.path (drop l.row-index l.rows)) (drop l.row-index l.rows)) ≡ is_met l.path (drop (front_len l.path l.rows) l.rows))
