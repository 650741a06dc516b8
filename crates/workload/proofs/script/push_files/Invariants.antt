use Rattle.std.proofs.Common.{◌≡◌, ◌++◌, ◌+◌, ◌*◌, [], codes, string_bytes}
use Rattle.workload.specs.declared.pieces.TheConstants.{FOLDER_SIZE}
use Rattle.workload.specs.Script.{below, put_line}
use Rattle.workload.proofs.script.push_files.Given as goal

abbrev pub invariant-loop-file : goal.invariant-loop-file
invariant-loop-file l = string_bytes l.text ≡ string_bytes l.initial.text ++ below l.file (λ file. put_line (codes "A") l.salt (FOLDER_SIZE * l.folder + file) [])
