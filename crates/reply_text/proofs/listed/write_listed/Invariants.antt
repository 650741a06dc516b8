use Rattle.std.proofs.Common.{◌≡◌, ◌++◌, take, string_bytes}
use Rattle.std.specs.List.{flat_map}
use Rattle.reply_text.specs.Listed.{listed_line}
use Rattle.reply_text.proofs.listed.write_listed.Given as goal

-- what is written so far is that of the items so far
abbrev pub invariant-loop-listed : goal.invariant-loop-listed
invariant-loop-listed l = string_bytes l.text ≡ string_bytes l.fn.text ++ flat_map listed_line (take l.listed-index l.entries)
