use Rattle.std.proofs.Common.{◌≡◌, ◌++◌, take, string_bytes}
use Rattle.std.specs.List.{flat_map}
use Rattle.reply_text.specs.Reports.{problem_line}
use Rattle.reply_text.proofs.report_rows.write_problems.Given as goal

-- what is written so far is that of the items so far
abbrev pub invariant-loop-problem : goal.invariant-loop-problem
invariant-loop-problem l = string_bytes l.text ≡ string_bytes l.fn.text ++ flat_map problem_line (take l.problem-index l.problems)
