-- A CYCLE, by what it was made of and what it was told.
use Rattle.std.specs.Prelude.{◌≡◌, ◌≤◌, Bool, true, false, List, [], ◌∷◌, ◌++◌, Option, Some, None}
use Rattle.std.specs.Option.{option_and_then}
use Rattle.mode_rules.specs.declared.phase.Phase.{Phase}
use Rattle.mode_rules.specs.declared.phase.Phase.TheVariants.{Idle}
use Rattle.roots_api.specs.declared.limits.TheConstants.{MAX_FETCH}
use Rattle.cycle_core.specs.Going.{Asked, MayBeTold, asked, begun, phase_of, setup_of}
use Rattle.cycle_core.specs.Turns.{AreTurns, IsTurn, Turn, caches_from, came_from}
use Rattle.cycle_core.specs.declared.request.Progress.{Progress}
use Rattle.cycle_core.specs.declared.request.Progress.TheVariants.{Going, Ended}
use Rattle.cycle_core.specs.declared.request.Taken.{Taken}
use Rattle.cycle_core.specs.declared.spec.Caches.{Caches}
use Rattle.cycle_core.specs.declared.spec.CycleSpec.{CycleSpec}
use Rattle.cycle_core.specs.declared.spec.Setup.{Setup}
use Rattle.cycle_core.specs.declared.stand.Next.{Next}
use Rattle.cycle_core.specs.declared.stand.Next.TheVariants.{Goes, Ends}
use Rattle.cycle_core.specs.declared.stand.Stand.{Stand}

-- A cycle: what it was made of, its caches then, and its turns, the oldest first.
pub record CycleTold : Type 0 where
  pub spec : CycleSpec
  pub caches : Caches
  pub turns : List Turn

-- a cycle that was told nothing
abbrev pub new_cycle : CycleSpec → Caches → CycleTold
new_cycle spec caches = record { spec = spec; caches = caches; turns = [] }

-- how it stands, and its caches
abbrev pub now_of : CycleTold → Next
now_of m = came_from (Goes (begun m.spec)) m.turns

abbrev pub caches_of : CycleTold → Caches
caches_of m = caches_from m.caches m.turns

-- where it stands; none where it has ended
abbrev pub stand_in : Next → Option Stand
stand_in (Goes stand) = Some stand
stand_in (Ends report) = None

abbrev pub stand_of : CycleTold → Option Stand
stand_of m = stand_in (now_of m)

-- WHAT IT ASKS NEXT; none where it has ended
abbrev pub asks : CycleTold → Option Asked
asks m = option_and_then asked (stand_of m)

-- its phase; a cycle that has ended is in none
abbrev pub phase_in : Option Stand → Phase
phase_in None = Idle
phase_in (Some stand) = phase_of stand

abbrev pub phase : CycleTold → Phase
phase m = phase_in (stand_of m)

-- ---- a turn

-- whether it hasn't ended
abbrev pub is_going : Next → Bool
is_going (Goes stand) = true
is_going (Ends report) = false

-- what it may be told now
abbrev pub MayBeToldIn : Next → Taken → Type 0
MayBeToldIn (Goes stand) told = MayBeTold stand told
MayBeToldIn (Ends report) told = ⊥

-- the cycle with one turn more
abbrev pub with_turn : CycleTold → Turn → CycleTold
with_turn m t = record { spec = m.spec; caches = m.caches; turns = m.turns ++ t ∷ [] }

abbrev pub progress_of : Next → Progress
progress_of (Goes stand) = Going
progress_of (Ends report) = Ended report

-- ONE TURN: it is told this, or none for a stop, and goes on so
abbrev pub StepsTo : CycleTold → Option Taken → Progress → CycleTold → Type 0
StepsTo m told progress new =
    (t : Turn) × (t.told ≡ told) × IsTurn (setup_of m.spec) (caches_of m) (now_of m) t × (progress ≡ progress_of t.came) × (new ≡ with_turn m t)

-- this can have been told to it
abbrev pub IsCycle : CycleTold → Type 0
IsCycle m = (m.spec.size ≤ MAX_FETCH) × AreTurns (setup_of m.spec) m.caches (Goes (begun m.spec)) m.turns

-- what the machine holds is what its history comes to
pub record IsMachine (m : CycleTold) (setup : Setup) (caches : Caches) (stand : Option Stand) : Type 0 where
  pub setup_is : setup ≡ setup_of m.spec
  pub caches_are : caches ≡ caches_of m
  pub stand_is : stand ≡ stand_of m
  pub cycle : IsCycle m
