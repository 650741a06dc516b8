-- Which staging asks next.
use Rattle.std.specs.Prelude.{◌≡◌, true, None, is_some}
use Rattle.cycle_core.specs.UnderWay.{UnderWay, stages_next}
use Rattle.cycle_core.specs.declared.supplying.Supplied.{Supplied}
use Rattle.cycle_core.specs.declared.supplying.Supplied.TheVariants.{Asks, Rests, NoMemory}

-- there is a next request, or none is left; or there is no memory for it
abbrev pub IsSupplied : UnderWay → Supplied → Type 0
IsSupplied w (Asks asked) = (asked ≡ w) × (is_some (stages_next w) ≡ true)
IsSupplied w (Rests rest) = (rest ≡ w) × (stages_next w ≡ None)
IsSupplied w (NoMemory rest) = rest ≡ w
