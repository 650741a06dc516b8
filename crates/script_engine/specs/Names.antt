-- Maps by the names of files.
use Rattle.std.specs.FinMap as map
use Rattle.std.specs.Ordering.{nat_cmp}
use Rattle.std.specs.Cmp.Lexicographic.{slice_cmp}

-- a finite map from names, in the order of their bytes
abbrev pub ByName : Type 0 → Type 0
ByName X = map.FinMap (slice_cmp nat_cmp) X

-- a finite set of names, in the order of their bytes
abbrev pub NameSet : Type 0
NameSet = ByName (Unit {0})
