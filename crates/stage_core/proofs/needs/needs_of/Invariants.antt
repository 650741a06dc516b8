use Rattle.std.proofs.Common.{◌≡◌, ◌++◌, drop}
use Rattle.std.specs.List.{flat_map}
use Rattle.stage_core.specs.Needs.{needed_by}
use Rattle.stage_core.proofs.needs.needs_of.Given as goal

-- the files so far, and those to come
abbrev pub invariant-loop-change : goal.invariant-loop-change
invariant-loop-change l = l.needs.items ++ flat_map (needed_by l.side l.stamps) (drop l.change-index l.changes) ≡ flat_map (needed_by l.side l.stamps) l.changes
