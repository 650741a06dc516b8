-- Which files a side needs of the other.
use Rattle.std.specs.Prelude.{Bool, true, false, List, [], Option, if◌then◌else◌}
use Rattle.std.specs.FinMap as map
use Rattle.std.specs.List.{filter_map, flat_map}
use Rattle.std.specs.Option.{option_map}
use Rattle.entry_tree.specs.Tree.{ByPath}
use Rattle.entry_tree.specs.declared.entry.Stamp.{Stamp}
use Rattle.entry_tree.specs.declared.side.Side.{Side}
use Rattle.entry_tree.specs.declared.side.Side.TheVariants.{Alpha, Beta}
use Rattle.mode_rules.specs.Placing.{placed_files}
use Rattle.mode_rules.specs.declared.change.Change.{Change}
use Rattle.mode_rules.specs.declared.change.PlacedFile.{PlacedFile}
use Rattle.stage_core.specs.declared.need.Need.{Need}

-- whether two sides are the same
abbrev pub is_same_side : Side → Side → Bool
is_same_side Alpha Alpha = true
is_same_side Alpha Beta = false
is_same_side Beta Alpha = false
is_same_side Beta Beta = true

-- a file that is placed is needed, with the stamp that was handed in; none where there is none
abbrev pub need_of : ByPath Stamp → PlacedFile → Option Need
need_of stamps file = option_map (λ stamp. record { path = file.path; stamp = stamp; digest = file.digest }) (map.get stamps file.path)

-- the files that a side needs for a change, in path order; none for a change of the other side
abbrev pub needed_by : Side → ByPath Stamp → Change → List Need
needed_by side stamps change = if is_same_side change.side side then filter_map (need_of stamps) (placed_files change) else []

-- the files that a side needs for these changes, in the order of the changes (a plan's are in path order)
abbrev pub needs_of : Side → ByPath Stamp → List Change → List Need
needs_of side stamps changes = flat_map (needed_by side stamps) changes
