use Rattle.std.proofs.Common.{◌≡◌, ◌++◌, string_bytes}
use Rattle.workload.specs.Script.{below, folder_lines}
use Rattle.workload.proofs.script.push_tree.Given as goal

abbrev pub invariant-loop-folder : goal.invariant-loop-folder
invariant-loop-folder l = string_bytes l.text ≡ string_bytes l.initial.text ++ below l.folder (folder_lines l.salt l.n)
