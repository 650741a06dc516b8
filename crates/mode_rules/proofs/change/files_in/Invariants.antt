use Rattle.std.proofs.Common.{◌≡◌, ◌++◌, drop}
use Rattle.std.specs.List.{filter_map}
use Rattle.mode_rules.specs.Placing.{placed_file}
use Rattle.mode_rules.proofs.change.files_in.Given as goal

-- the files so far, and those to come
abbrev pub invariant-loop-path : goal.invariant-loop-path
invariant-loop-path l = l.files ++ filter_map placed_file (drop l.path-index l.entries) ≡ filter_map placed_file l.entries
