-- What a refusal of a list of texts says.
use Rattle.std.specs.Prelude.{◌≡◌, ℕ, List}
use Rattle.ignore_glob.specs.Faults.{counted}
use Rattle.ignore_rules.specs.declared.rule_error.RuleError.{RuleError}
use Rattle.ignore_rules.specs.declared.rule_error.RuleError.TheVariants.{Bad, Memory}
use Rattle.ignore_rules.specs.Rules.{IsRuleFault}

-- the text of this number goes wrong at this place, or there was no memory
abbrev pub IsRefusal : List (List ℕ) → RuleError → Type 0
IsRefusal texts (Bad bad) = (place : ℕ) × IsRuleFault texts bad.index place × (bad.place ≡ counted place)
IsRefusal texts Memory = Unit {0}
