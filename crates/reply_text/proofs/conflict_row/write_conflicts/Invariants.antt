use Rattle.std.proofs.Common.{◌≡◌, ◌++◌, take, string_bytes}
use Rattle.std.specs.List.{flat_map}
use Rattle.reply_text.specs.Reports.{conflict_line}
use Rattle.reply_text.proofs.conflict_row.write_conflicts.Given as goal

-- what is written so far is that of the items so far
abbrev pub invariant-loop-conflict : goal.invariant-loop-conflict
invariant-loop-conflict l = string_bytes l.text ≡ string_bytes l.fn.text ++ flat_map conflict_line (take l.conflict-index l.conflicts)
