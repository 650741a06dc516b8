use Rattle.std.proofs.Common.{◌≡◌, ◌++◌, drop}
use Rattle.std.specs.List.{filter_map}
use Rattle.mode_rules.specs.Placing.{placed_file}
use Rattle.stage_core.specs.Needs.{need_of}
use Rattle.stage_core.proofs.needs.add_files.Given as goal

-- the files so far, and those to come
abbrev pub invariant-loop-path : goal.invariant-loop-path
invariant-loop-path l =
    l.needs.items ++ filter_map (need_of l.stamps) (filter_map placed_file (drop l.path-index l.entries))
    ≡ l.fn.needs.items ++ filter_map (need_of l.stamps) (filter_map placed_file l.entries)
