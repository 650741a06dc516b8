-- The turns of a cycle, and how it stands behind them.
use Rattle.std.specs.Prelude.{◌≡◌, List, [], ◌∷◌, Option, Some, None}
use Rattle.cycle_core.specs.Ending.{GoesBy}
use Rattle.cycle_core.specs.Going.{MayBeTold, TurnsTo, stopped}
use Rattle.cycle_core.specs.declared.request.Taken.{Taken}
use Rattle.cycle_core.specs.declared.spec.Caches.{Caches}
use Rattle.cycle_core.specs.declared.spec.Setup.{Setup}
use Rattle.cycle_core.specs.declared.stand.Next.{Next}
use Rattle.cycle_core.specs.declared.stand.Next.TheVariants.{Goes, Ends}
use Rattle.cycle_core.specs.declared.stand.Stand.{Stand}

-- One turn: what the cycle was told, or none for a stop; how it went on; and its caches then.
pub record Turn : Type 0 where
  pub told : Option Taken
  pub came : Next
  pub caches : Caches

-- how it stands behind some turns, and its caches then
abbrev pub came_from : Next → List Turn → Next
came_from next [] = next
came_from next (t ∷ ts) = came_from t.came ts

abbrev pub caches_from : Caches → List Turn → Caches
caches_from caches [] = caches
caches_from caches (t ∷ ts) = caches_from t.caches ts

module _ (setup : Setup) where
  -- a turn is made of what it stood like: it may be told this, and goes on by it; a stop leaves the caches
  abbrev pub IsTurnOf : Caches → Stand → Option Taken → Next → Caches → Type 0
  IsTurnOf caches stand (Some told) came new = MayBeTold stand told × TurnsTo setup caches stand told came new
  IsTurnOf caches stand None came new = GoesBy (λ memory. stopped setup memory stand) came × (new ≡ caches)

  -- a cycle that has ended makes none
  abbrev pub IsTurn : Caches → Next → Turn → Type 0
  IsTurn caches (Goes stand) t = IsTurnOf caches stand t.told t.came t.caches
  IsTurn caches (Ends report) t = ⊥

  -- each turn is made of how the one before left it
  abbrev pub AreTurns : Caches → Next → List Turn → Type 0
  AreTurns caches next [] = Unit {0}
  AreTurns caches next (t ∷ ts) = IsTurn caches next t × AreTurns t.caches t.came ts
