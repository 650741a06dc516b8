use Rattle.std.proofs.Common.{◌≡◌, ◌++◌, string_bytes}
use Rattle.workload.specs.Script.{below, edit_lines}
use Rattle.workload.proofs.script.push_all_edits.Given as goal

abbrev pub invariant-loop-file : goal.invariant-loop-file
invariant-loop-file l = string_bytes l.text ≡ string_bytes l.initial.text ++ below l.file (edit_lines l.salt)
