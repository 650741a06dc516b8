use Rattle.std.proofs.Common.{◌≡◌, ◌++◌, take, string_bytes}
use Rattle.std.specs.List.{flat_map}
use Rattle.reply_text.specs.Rows.{sync_line}
use Rattle.reply_text.proofs.sync_row.write_sync_rows.Given as goal

-- what is written so far is that of the items so far
abbrev pub invariant-loop-row : goal.invariant-loop-row
invariant-loop-row l = string_bytes l.text ≡ string_bytes l.fn.text ++ flat_map sync_line (take l.row-index l.rows)
