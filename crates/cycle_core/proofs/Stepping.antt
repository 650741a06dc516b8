-- One turn more: what the machine holds is still what its history comes to.
use Rattle.std.proofs.Common.{◌≡◌, List, [], ◌∷◌, ◌++◌, Option, Some, refl, ap, sym, subst, ◌∙◌}
use Rattle.finite_maps.proofs.Constructors.{none_is_not_some, some_same}
use Rattle.cycle_core.specs.Cycle.{CycleTold, IsMachine, MayBeToldIn, StepsTo, caches_of, now_of, progress_of, stand_in, with_turn}
use Rattle.cycle_core.specs.Going.{MayBeTold, begun, setup_of}
use Rattle.cycle_core.specs.Turns.{AreTurns, IsTurn, IsTurnOf, Turn, caches_from, came_from}
use Rattle.cycle_core.specs.declared.request.Progress.{Progress}
use Rattle.cycle_core.specs.declared.request.Taken.{Taken}
use Rattle.cycle_core.specs.declared.spec.Caches.{Caches}
use Rattle.cycle_core.specs.declared.spec.Setup.{Setup}
use Rattle.cycle_core.specs.declared.stand.Next.{Next}
use Rattle.cycle_core.specs.declared.stand.Next.TheVariants.{Goes, Ends}
use Rattle.cycle_core.specs.declared.stand.Stand.{Stand}

abbrev pub turn_as : Option Taken → Next → Caches → Turn
turn_as told came new = record { told = told; came = came; caches = new }

came_last : (next : Next) (ts : List Turn) (t : Turn) → came_from next (ts ++ t ∷ []) ≡ t.came
came_last next [] t = refl
came_last next (x ∷ ts) t = came_last x.came ts t

caches_last : (caches : Caches) (ts : List Turn) (t : Turn) → caches_from caches (ts ++ t ∷ []) ≡ t.caches
caches_last caches [] t = refl
caches_last caches (x ∷ ts) t = caches_last x.caches ts t

turns_last : (setup : Setup) (caches : Caches) (next : Next) (ts : List Turn) (t : Turn) → AreTurns setup caches next ts
    → IsTurn setup (caches_from caches ts) (came_from next ts) t → AreTurns setup caches next (ts ++ t ∷ [])
turns_last setup caches next [] t are is = (is, tt)
turns_last setup caches next (x ∷ ts) t are is = (are.0, turns_last setup x.caches x.came ts t are.1 is)

goes_on : (next : Next) (s : Stand) → stand_in next ≡ Some s → next ≡ Goes s
goes_on (Goes stand) s e = ap Goes (some_same stand s e)
goes_on (Ends report) s e = absurd (none_is_not_some s e)

module _ (m : CycleTold) (setup : Setup) (caches : Caches) (stand : Option Stand) (is : IsMachine m setup caches stand) where
  -- how it stood lets this turn come
  pub turned : (s : Stand) (told : Option Taken) (came : Next) (new : Caches) → stand ≡ Some s → IsTurnOf setup caches s told came new
      → IsTurn (setup_of m.spec) (caches_of m) (now_of m) (turn_as told came new)
  turned s told came new e t =
      subst (λ n. IsTurn (setup_of m.spec) (caches_of m) n (turn_as told came new)) (sym (goes_on (now_of m) s (sym is.stand_is ∙ e)))
      (subst (λ c. IsTurnOf (setup_of m.spec) c s told came new) is.caches_are (subst (λ x. IsTurnOf x caches s told came new) is.setup_is t))

  -- the machine with that turn
  pub stepped : (t : Turn) (later : Option Stand) → IsTurn (setup_of m.spec) (caches_of m) (now_of m) t → later ≡ stand_in t.came
      → IsMachine (with_turn m t) setup t.caches later
  stepped t later turn e = record {
    setup_is = is.setup_is;
    caches_are = sym (caches_last m.caches m.turns t);
    stand_is = e ∙ ap stand_in (sym (came_last (Goes (begun m.spec)) m.turns t));
    cycle = (is.cycle.0, turns_last (setup_of m.spec) m.caches (Goes (begun m.spec)) m.turns t is.cycle.1 turn);
  }

  -- both, where the turns are written down so
  pub steps_to : (s : Stand) (told : Option Taken) (came : Next) (new : Caches) (progress : Progress) (turns : List Turn) (seen : CycleTold) → m ≡ seen
      → stand ≡ Some s → IsTurnOf setup caches s told came new → progress ≡ progress_of came → turns ≡ m.turns ++ turn_as told came new ∷ []
      → StepsTo seen told progress (record { spec = m.spec; caches = m.caches; turns = turns })
  steps_to s told came new progress turns seen same e t p written =
      subst (λ x. StepsTo x told progress (record { spec = m.spec; caches = m.caches; turns = turns })) same
      (turn_as told came new, refl, turned s told came new e t, p, ap (λ ts. record { spec = m.spec; caches = m.caches; turns = ts }) written)

  pub machine_after : (s : Stand) (told : Option Taken) (came : Next) (new : Caches) (turns : List Turn) (later : Option Stand)
      → stand ≡ Some s → IsTurnOf setup caches s told came new → later ≡ stand_in came → turns ≡ m.turns ++ turn_as told came new ∷ []
      → IsMachine (record { spec = m.spec; caches = m.caches; turns = turns }) setup new later
  machine_after s told came new turns later e t l written =
      subst (λ ts. IsMachine (record { spec = m.spec; caches = m.caches; turns = ts }) setup new later) (sym written)
      (stepped (turn_as told came new) later (turned s told came new e t) l)

  -- what it may be told is what it may be told where it stands
  pub may_be_told : (s : Stand) (told : Taken) (seen : CycleTold) → m ≡ seen → stand ≡ Some s → MayBeToldIn (now_of seen) told → MayBeTold s told
  may_be_told s told seen same e h =
      subst (λ n. MayBeToldIn n told) (goes_on (now_of m) s (sym is.stand_is ∙ e)) (subst (λ x. MayBeToldIn (now_of x) told) (sym same) h)
