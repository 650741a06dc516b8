use Rattle.std.proofs.Common.{◌≡◌, take, map}
use Rattle.reply_text.specs.Reports.{conflict_row}
use Rattle.reply_text.proofs.conflict_row.conflict_rows.Given as goal

-- the rows so far are those of the conflicts so far
abbrev pub invariant-loop-conflict : goal.invariant-loop-conflict
invariant-loop-conflict l = l.rows ≡ map conflict_row (take l.conflict-index l.conflicts)
