-- What no log shows of a cycle.
use Rattle.std.specs.Prelude.{Bool, List}
use Rattle.entry_tree.specs.declared.side.Side.{Side}
use Rattle.entry_tree.specs.declared.side.Side.TheVariants.{Alpha, Beta}
use Rattle.roots_api.specs.declared.op.Op.{Op}

-- What no log shows of a cycle on one side: the operations that met Full, and those that met want of memory; and whether the root's count of
-- faults rose in the cycle, and its count of Full answers.
pub record Unheard : Type 0 where
  pub full : List Op
  pub starved : List Op
  pub faults_rose : Bool
  pub full_rose : Bool

-- What no log shows of a cycle: whether a turn of it found Stop; whether its plan stood, if its two scans were whole; whether it met want of memory,
-- in an operation or elsewhere; whether an append of it failed, and the keeper's count of faults rose in it; and so on each side.
pub record Unlogged : Type 0 where
  pub stopped : Bool
  pub planned : Bool
  pub short : Bool
  pub append_failed : Bool
  pub keeper_rose : Bool
  pub alpha : Unheard
  pub beta : Unheard

-- that of a side
abbrev pub unheard_on : Unlogged → Side → Unheard
unheard_on u Alpha = u.alpha
unheard_on u Beta = u.beta
