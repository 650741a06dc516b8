-- The two sides of a session.
use Rattle.entry_tree.specs.declared.side.Side.{Side}
use Rattle.entry_tree.specs.declared.side.Side.TheVariants.{Alpha, Beta}

-- the other of the two
abbrev pub other_side : Side → Side
other_side Alpha = Beta
other_side Beta = Alpha
