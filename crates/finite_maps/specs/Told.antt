-- What an object tells of what it holds, before and after a call.
use Rattle.std.specs.Prelude.{Option, Some, None}

-- Where an object told what it held, it tells it again afterwards, and this holds of the two. Nothing is said of an object that didn't tell.
abbrev pub WhereTold : {A : Type 0} → Option A → Option A → (A → A → Type 0) → Type 0
WhereTold None new R = Unit {0}
WhereTold (Some old) None R = ⊥
WhereTold (Some old) (Some new) R = R old new
