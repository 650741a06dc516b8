-- How the values that contracts see are told apart.
use Rattle.std.specs.Prelude.{ℕ, List, Option, refl}
use Rattle.std.specs.FinMap as map
use Rattle.std.specs.FinMap.{FinMap}
use Rattle.std.specs.Cmp.Lexicographic.{slice_cmp}
use Rattle.std.specs.Coded.{Coded, code_by, coded×, coded_ℕ, coded_list, coded_option}
use Rattle.std.specs.Ordering.{nat_cmp}
use Rattle.entry_tree.specs.Tree.{ByPath}
use Rattle.entry_tree.specs.declared.entry.Entry.{Entry}
use Rattle.entry_tree.specs.contracts.entry.Entry as entry
use Rattle.roots_api.specs.States.{RootState, Staged}
use Rattle.roots_api.specs.contracts.event.Event as event
use Rattle.roots_api.specs.declared.event.Event.{Event}
use Rattle.mem_roots.specs.MemRoot.{MemState}

abbrev pub staged_code : Coded Staged
staged_code =
    code_by (Option (List ℕ) × FinMap (slice_cmp nat_cmp) (List ℕ))
    (coded× (coded_option (coded_list coded_ℕ)) (map.code (coded_list coded_ℕ) (coded_list coded_ℕ)))
    (λ s. (s.begun, s.kept)) (λ p. record { begun = p.0; kept = p.1 }) (λ _. refl)

abbrev pub state_code : Coded RootState
state_code =
    code_by (ByPath Entry × (List (List ℕ) × FinMap nat_cmp Staged))
    (coded× (map.code (coded_list (coded_list coded_ℕ)) entry.the_row.coded) (coded× (coded_list (coded_list coded_ℕ)) (map.code coded_ℕ staged_code)))
    (λ s. (s.tree, (s.ledger, s.staging))) (λ p. record { tree = p.0; ledger = p.1.0; staging = p.1.1 }) (λ _. refl)

abbrev pub mem_code : Coded MemState
mem_code =
    code_by (List Event × (List ℕ × ℕ)) (coded× (coded_list event.the_row.coded) (coded× (coded_list coded_ℕ) coded_ℕ))
    (λ m. (m.log, (m.fails, m.full_answers))) (λ p. record { log = p.0; fails = p.1.0; full_answers = p.1.1 }) (λ _. refl)
