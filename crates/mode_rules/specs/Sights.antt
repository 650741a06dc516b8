-- What a decision looks at, as the code has it.
use Rattle.mode_rules.specs.declared.sight.Sight.{Sight}
use Rattle.mode_rules.specs.Trees.{Trees}

-- the three trees
abbrev pub trees_of : Sight → Trees
trees_of sight = record { ancestor = sight.ancestor.now; alpha = sight.alpha.now; beta = sight.beta.now }
