use Rattle.std.proofs.Common.{◌≡◌}
use Rattle.std.specs.FinMap as map
use Rattle.sync_path.specs.Path.{path_cmp}
use Rattle.entry_tree.specs.Copying.{put_all}
use Rattle.entry_tree.proofs.tree.copying.copy_into.Given as goal

-- what is there, with what is left put in, is what all makes
abbrev pub invariant-loop-path : goal.invariant-loop-path
invariant-loop-path g l =
    put_all (map.from_entries {R = path_cmp} l.into.entries) l.path-iterator ≡ put_all (map.from_entries {R = path_cmp} l.initial.into.entries) l.initial.path-iterator
