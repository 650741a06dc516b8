-- The ancestor's lines, taken up one after the other.
use Rattle.std.specs.Prelude.{List, [], ◌∷◌, Option, Some, None, if◌then◌else◌, is_some}
use Rattle.std.specs.Option.{option_and_then}
use Rattle.entry_tree.specs.Atom.{is_dir}
use Rattle.entry_tree.specs.Tree.{ByPath, set_at, without_under, at_parent, refusal}
use Rattle.entry_tree.specs.declared.atom.Atom.{Atom}
use Rattle.mode_rules.specs.declared.ancestor_line.AncestorLine.{AncestorLine}
use Rattle.mode_rules.specs.declared.ancestor_line.AncestorLine.TheVariants.{Set, Drop}

-- The tree once a line is taken up. `Set` puts the atom and, where it is no folder, takes away all below; it can't be taken up where the path's parent
-- is no folder. `Drop` takes away all at and below the path.
abbrev pub with_line : ByPath Atom → AncestorLine → Option (ByPath Atom)
with_line tree (Set path atom) = if is_some (refusal is_dir (at_parent tree path)) then None else Some (set_at is_dir tree path atom)
with_line tree (Drop path) = Some (without_under tree path)

-- the tree once all lines are taken up in turn, if each of them can be
abbrev pub with_lines : ByPath Atom → List AncestorLine → Option (ByPath Atom)
with_lines tree [] = Some tree
with_lines tree (line ∷ lines) = option_and_then (λ (next : ByPath Atom). with_lines next lines) (with_line tree line)
