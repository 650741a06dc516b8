-- How the values that contracts see are told apart.
use Rattle.std.specs.Prelude.{ℕ, List, refl}
use Rattle.std.specs.Coded.{Coded, code_by, coded×, coded_list, coded_ℕ}
use Rattle.scan_core.specs.Told.{Told, told_code}
use Rattle.scan_core.specs.Scan.{ScanTold}

abbrev pub scan_code : Coded ScanTold
scan_code =
    code_by (ℕ × (ℕ × List Told)) (coded× coded_ℕ (coded× coded_ℕ (coded_list told_code)))
    (λ m. (m.entries, (m.size, m.told))) (λ p. record { entries = p.0; size = p.1.0; told = p.1.1 }) (λ _. refl)
