-- What an operation makes of what its session has staged.
use Rattle.std.specs.Prelude.{Bool, cond}
use Rattle.roots_api.specs.States.{Staged}
use Rattle.roots_api.specs.Steps.{begin_file, append_bytes, keep_file, drop_file}
use Rattle.roots_api.specs.declared.op.Op.{Op}
use Rattle.roots_api.specs.declared.op.Op.TheVariants.{StageOpen, StageAppend, StageKeep}

-- what an operation that is done makes of it
abbrev pub staged_done : Op → Staged → Staged
staged_done StageOpen staged = begin_file staged
staged_done (StageAppend bytes) staged = append_bytes bytes staged
staged_done (StageKeep digest) staged = keep_file digest staged
staged_done op staged = staged

-- what an operation makes of it that is done, or else drops the begun file
abbrev pub staged_after : Op → Bool → Staged → Staged
staged_after op is_done staged = cond is_done (staged_done op staged) (drop_file staged)
