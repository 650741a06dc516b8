-- How the values that contracts see are told apart.
use Rattle.std.specs.Prelude.{ℕ, refl}
use Rattle.std.specs.FinMap as map
use Rattle.std.specs.Coded.{Coded, code_by, coded×, coded_ℕ, coded_list}
use Rattle.entry_tree.specs.Tree.{ByPath}
use Rattle.entry_tree.specs.declared.atom.Atom.{Atom}
use Rattle.entry_tree.specs.contracts.atom.Atom as atom
use Rattle.frame_text.specs.Folds.{Folded}

abbrev pub folded_code : Coded Folded
folded_code =
    code_by (ByPath Atom × ℕ) (coded× (map.code (coded_list (coded_list coded_ℕ)) atom.the_row.coded) coded_ℕ)
    (λ f. (f.tree, f.served)) (λ p. record { tree = p.0; served = p.1 }) (λ _. refl)
