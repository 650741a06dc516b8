-- What every list of turns keeps to.
use Rattle.std.specs.Prelude.{◌≡◌, ◌+◌, ◌*◌, ◌≤◌, true, false, List, ◌∷◌, ◌++◌, [], length}
use Rattle.std.specs.List.{list_all, list_any}
use Rattle.entry_tree.specs.declared.side.Side.{Side}
use Rattle.stage_core.specs.Turns.{Turn, Stages, IsWhole, stand_of, stops, fetches, is_kept_or_missing}
use Rattle.stage_core.specs.declared.need.Need.{Need}

-- at the end each file is kept or stands among the problems, where no turn ended the staging before
abbrev pub EachKeptOrMissing : Type 0
EachKeptOrMissing =
    (side : Side) (needs : List Need) (turns : List Turn) → Stages side needs turns → IsWhole side needs turns → list_any stops turns ≡ false
    → list_all (is_kept_or_missing turns (stand_of side needs turns).missing) needs ≡ true

-- behind a turn that ends it a staging asks nothing
abbrev pub StopsAtOnce : Type 0
StopsAtOnce =
    (side : Side) (needs : List Need) (turns : List Turn) (t : Turn) → Stages side needs (turns ++ t ∷ []) → stops t ≡ true → IsWhole side needs (turns ++ t ∷ [])

-- there are at most 514 turns for a file, two for each of 256 pieces and two more, and one before all
abbrev pub FewForFiles : Type 0
FewForFiles = (side : Side) (needs : List Need) (turns : List Turn) → Stages side needs turns → length turns ≤ 514 * length needs + 1

-- there are at most four turns for a piece that is asked for, and two more
abbrev pub FewForPieces : Type 0
FewForPieces = (side : Side) (needs : List Need) (turns : List Turn) → Stages side needs turns → length turns ≤ 4 * fetches turns + 2
