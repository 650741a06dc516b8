-- What a staging's code keeps.
use Rattle.std.specs.Prelude.{ℕ, ◌≤◌, Bool, List}
use Rattle.roots_api.specs.Answers.{IsPiece}
use Rattle.roots_api.specs.declared.limits.TheConstants.{MAX_FETCH}
use Rattle.stage_core.specs.declared.doing.Doing.{Doing}
use Rattle.stage_core.specs.declared.doing.Doing.TheVariants.{Fetching, Appending}
use Rattle.stage_core.specs.declared.heard.Heard.{Heard}
use Rattle.stage_core.specs.declared.heard.Heard.TheVariants.{Got}

-- no more bytes are fetched than a file may have
abbrev pub IsWithin : Doing → Type 0
IsWithin (Fetching offset) = offset ≤ MAX_FETCH
IsWithin (Appending bytes end last) = end ≤ MAX_FETCH
IsWithin doing = Unit {0}

-- this is a piece of the file that is fetched, if one is
abbrev pub IsPieceAt : Doing → List ℕ → Bool → Type 0
IsPieceAt (Fetching offset) bytes last = IsPiece offset bytes last
IsPieceAt doing bytes last = Unit {0}

-- if a piece is heard of, it is one of the file that is fetched
abbrev pub IsHeard : Doing → Heard → Type 0
IsHeard doing (Got bytes last) = IsPieceAt doing bytes last
IsHeard doing heard = Unit {0}
