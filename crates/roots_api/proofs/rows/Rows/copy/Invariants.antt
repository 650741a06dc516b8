use Rattle.std.proofs.Common.{◌≡◌, take}
use Rattle.roots_api.proofs.rows.Rows.copy.Given as goal

abbrev pub invariant-loop-name : goal.invariant-loop-name
invariant-loop-name l = l.rows ≡ take l.name-index l.name-items
