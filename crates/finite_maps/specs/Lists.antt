-- Words on lists.
use Rattle.std.specs.Prelude.{◌≡◌, List, ◌++◌}

-- the list begins with this one
abbrev pub BeginsWith : {A : Type 0} → List A → List A → Type 0
BeginsWith {A} all start = (rest : List A) × (all ≡ start ++ rest)
