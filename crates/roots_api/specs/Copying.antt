-- Which operations take memory for a copy.
use Rattle.std.specs.Prelude.{Bool, true, false}
use Rattle.roots_api.specs.declared.op.Op.{Op}
use Rattle.roots_api.specs.declared.op.Op.TheVariants.{StageClear, StageOpen, StageKeep}

-- whether an operation has a path or bytes
abbrev pub has_path_or_bytes : Op → Bool
has_path_or_bytes StageClear = false
has_path_or_bytes StageOpen = false
has_path_or_bytes (StageKeep digest) = false
has_path_or_bytes op = true
