use Rattle.std.proofs.Common.{◌≡◌, ◌++◌, take, string_bytes}
use Rattle.std.specs.List.{flat_map}
use Rattle.reply_text.specs.Rows.{forward_line}
use Rattle.reply_text.proofs.forward_row.write_forward_rows.Given as goal

-- what is written so far is that of the items so far
abbrev pub invariant-loop-row : goal.invariant-loop-row
invariant-loop-row l = string_bytes l.text ≡ string_bytes l.fn.text ++ flat_map forward_line (take l.row-index l.rows)
