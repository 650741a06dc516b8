-- How keepers in memory are told apart.
use Rattle.std.specs.Prelude.{ℕ, List, refl}
use Rattle.std.specs.Coded.{Coded, code_by, coded×, coded_ℕ, coded_list}
use Rattle.ancestor_store.specs.MemKept.{MemKept}
use Rattle.ancestor_store.specs.contracts.mem_keeper.Kept as one
use Rattle.ancestor_store.specs.declared.mem_keeper.Kept.{Kept}

abbrev pub kept_code : Coded MemKept
kept_code =
    code_by (List Kept × (List ℕ × (ℕ × ℕ))) (coded× (coded_list one.the_row.coded) (coded× (coded_list coded_ℕ) (coded× coded_ℕ coded_ℕ)))
    (λ m. (m.kept, (m.failing, (m.made, m.faults)))) (λ p. record { kept = p.0; failing = p.1.0; made = p.1.1.0; faults = p.1.1.1 }) (λ _. refl)
