-- How the values of a cycle's history are told apart.
use Rattle.std.specs.Prelude.{List, Option, refl}
use Rattle.std.specs.Coded.{Coded, code_by, coded×, coded_list, coded_option}
use Rattle.cycle_core.specs.Cycle.{CycleTold}
use Rattle.cycle_core.specs.Turns.{Turn}
use Rattle.cycle_core.specs.contracts.request.Taken as taken
use Rattle.cycle_core.specs.contracts.spec.Caches as caches
use Rattle.cycle_core.specs.contracts.spec.CycleSpec as spec
use Rattle.cycle_core.specs.contracts.stand.Next as next
use Rattle.cycle_core.specs.declared.request.Taken.{Taken}
use Rattle.cycle_core.specs.declared.spec.Caches.{Caches}
use Rattle.cycle_core.specs.declared.spec.CycleSpec.{CycleSpec}
use Rattle.cycle_core.specs.declared.stand.Next.{Next}

abbrev pub turn_code : Coded Turn
turn_code =
    code_by (Option Taken × (Next × Caches)) (coded× (coded_option taken.the_row.coded) (coded× next.the_row.coded caches.the_row.coded))
    (λ t. (t.told, (t.came, t.caches))) (λ p. record { told = p.0; came = p.1.0; caches = p.1.1 }) (λ _. refl)

abbrev pub cycle_code : Coded CycleTold
cycle_code =
    code_by (CycleSpec × (Caches × List Turn)) (coded× spec.the_row.coded (coded× caches.the_row.coded (coded_list turn_code)))
    (λ m. (m.spec, (m.caches, m.turns))) (λ p. record { spec = p.0; caches = p.1.0; turns = p.1.1 }) (λ _. refl)
