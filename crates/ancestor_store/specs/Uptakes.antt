-- Which lines a tree takes up in place, and when.
use Rattle.std.specs.Prelude.{Bool, true, not, ◌&&◌, cond, List, [], ◌∷◌, Option, Some, None}
use Rattle.std.specs.FinMap as map
use Rattle.std.specs.List.{filter_map}
use Rattle.entry_tree.specs.Atom.{is_dir}
use Rattle.entry_tree.specs.Tree.{Names, ByPath, entries_below}
use Rattle.entry_tree.specs.declared.atom.Atom.{Atom}
use Rattle.mode_rules.specs.declared.ancestor_line.AncestorLine.{AncestorLine}
use Rattle.mode_rules.specs.declared.ancestor_line.AncestorLine.TheVariants.{Set, Drop}

-- what comes before the append at a path that holds this, and is to hold an atom: it is set where nothing is held, and a folder in place of a leaf
abbrev pub add_by : Option Atom → Names → Atom → Option AncestorLine
add_by None path atom = Some (Set path atom)
add_by (Some old) path atom = cond (is_dir atom && not (is_dir old)) (Some (Set path atom)) None

-- and what takes that back
abbrev pub back_by : Option Atom → Names → Atom → Option AncestorLine
back_by None path atom = Some (Drop path)
back_by (Some old) path atom = cond (is_dir atom && not (is_dir old)) (Some (Set path old)) None

-- what comes behind the append at such a path: a leaf in place of what is held
abbrev pub put_by : Option Atom → Names → Atom → Option AncestorLine
put_by None path atom = None
put_by (Some old) path atom = cond (is_dir atom) None (Some (Set path atom))

abbrev pub add_line : ByPath Atom → Names × Atom → Option AncestorLine
add_line tree e = add_by (map.get tree e.0) e.0 e.1

abbrev pub back_line : ByPath Atom → Names × Atom → Option AncestorLine
back_line tree e = back_by (map.get tree e.0) e.0 e.1

abbrev pub put_line : ByPath Atom → Names × Atom → Option AncestorLine
put_line tree e = put_by (map.get tree e.0) e.0 e.1

-- what is held at a path is dropped where nothing is to be held
abbrev pub gone_by : Option Atom → Names → Option AncestorLine
gone_by None path = Some (Drop path)
gone_by (Some atom) path = None

abbrev pub gone_line : ByPath Atom → Names × Atom → Option AncestorLine
gone_line outcome e = gone_by (map.get outcome e.0) e.0

-- What is dropped for a line, by whether it takes away all below its path, and by what the path is to hold: the path where that is nothing, or what is to go below it where that is a folder. (A leaf takes
-- away what lies below it.)
abbrev pub clear_by : ByPath Atom → ByPath Atom → Names → Bool → Option Atom → List AncestorLine
clear_by tree outcome path clears None = Drop path ∷ []
clear_by tree outcome path clears (Some atom) = cond (is_dir atom && clears) (filter_map (gone_line outcome) (entries_below tree path)) []

abbrev pub clear_lines : ByPath Atom → ByPath Atom → AncestorLine → List AncestorLine
clear_lines tree outcome (Set path atom) = clear_by tree outcome path (not (is_dir atom)) (map.get outcome path)
clear_lines tree outcome (Drop path) = clear_by tree outcome path true (map.get outcome path)
