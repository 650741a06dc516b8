-- The turns of a reader's loop: the first, where nothing was asked yet, and those behind it.
use Rattle.std.proofs.Common.{◌≡◌, ◌<◌, ◌⊎◌}
use Rattle.outside_io.specs.Lines.{HasNoNewline}
use Rattle.outside_io.specs.Taking.{Taking}

-- Nothing has changed yet; or no newline was held, and more was taken since.
abbrev pub IsTurn : {S : Type 0} → Taking → S → Taking → S → Type 0
IsTurn was source now source' = ((now ≡ was) × (source' ≡ source)) ⊎ (HasNoNewline was.held × (was.taken < now.taken))
