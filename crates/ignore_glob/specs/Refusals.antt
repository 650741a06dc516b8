-- What a refusal of a text says.
use Rattle.std.specs.Prelude.{◌≡◌, ℕ, List}
use Rattle.ignore_glob.specs.declared.pattern_error.PatternError.{PatternError}
use Rattle.ignore_glob.specs.declared.pattern_error.PatternError.TheVariants.{Bad, Memory}
use Rattle.ignore_glob.specs.Faults.{IsFault, counted}

-- the text goes wrong at this place, or there was no memory
abbrev pub IsRefusal : List ℕ → PatternError → Type 0
IsRefusal text (Bad bad) = (place : ℕ) × IsFault text place × (bad ≡ record { place = counted place })
IsRefusal text Memory = Unit {0}
