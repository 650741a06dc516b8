-- Which operation of a change rests on which.
use Rattle.std.specs.Prelude.{Bool, true, false}
use Rattle.entry_tree.specs.Tree.{Names, is_below}
use Rattle.roots_api.specs.declared.op.Op.{Op}
use Rattle.roots_api.specs.declared.op.Op.TheVariants.{Place, MakeDir, MakeLink, Remove}

-- A creation rests on all removals of its change, and on the making of each folder above it.
abbrev pub creation_rests_on : Names → Op → Bool
creation_rests_on path (Remove removed expected) = true
creation_rests_on path (MakeDir folder) = is_below path folder
creation_rests_on path op = false

-- A removal rests on the removals of all below it.
abbrev pub removal_rests_on : Names → Op → Bool
removal_rests_on path (Remove removed expected) = is_below removed path
removal_rests_on path op = false

-- whether an operation of a change rests on an earlier one of it
abbrev pub rests_on : Op → Op → Bool
rests_on (Remove path expected) earlier = removal_rests_on path earlier
rests_on (MakeDir path) earlier = creation_rests_on path earlier
rests_on (Place path digest executable expected) earlier = creation_rests_on path earlier
rests_on (MakeLink path text expected) earlier = creation_rests_on path earlier
rests_on op earlier = false
