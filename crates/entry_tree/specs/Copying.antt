-- Putting entries into a tree's map.
use Rattle.std.specs.Prelude.{List, [], ◌∷◌}
use Rattle.std.specs.FinMap as map
use Rattle.entry_tree.specs.Tree.{Names, ByPath}

-- the map with all of these put in, in turn
abbrev pub put_all : {X : Type 0} → ByPath X → List (Names × X) → ByPath X
put_all tree [] = tree
put_all tree (e ∷ es) = put_all (map.insert tree e.0 e.1) es
