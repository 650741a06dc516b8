-- Tests of sameness.
use lib.Pointwise.{pointwise}
use Rattle.std.specs.Prelude.{Bool, false, ◌&&◌, List, bytes_eq}
use Rattle.entry_tree.specs.Atom.{same_atom, same_bit}
use Rattle.mode_rules.specs.declared.ancestor_line.AncestorLine.{AncestorLine}
use Rattle.mode_rules.specs.declared.ancestor_line.AncestorLine.TheVariants.{Set, Drop}
use Rattle.roots_api.specs.States.{same_entry, is_expected}
use Rattle.roots_api.specs.declared.op.Op.{Op}
use Rattle.roots_api.specs.declared.op.Op.TheVariants.{Place, MakeDir, MakeLink, Remove, SetExec}
use Rattle.scan_laws.specs.Seen.{same_path}

-- whether two operations are one that changes a tree: the same with the same fields
abbrev pub same_op : Op → Op → Bool
same_op (Place p d x e) (Place q f y g) = same_path p q && (bytes_eq d f && (same_bit x y && is_expected e g))
same_op (MakeDir p) (MakeDir q) = same_path p q
same_op (MakeLink p a e) (MakeLink q b g) = same_path p q && (bytes_eq a b && is_expected e g)
same_op (Remove p e) (Remove q g) = same_path p q && same_entry e g
same_op (SetExec p e x) (SetExec q g y) = same_path p q && (same_entry e g && same_bit x y)
same_op op other = false

-- whether two lines of the ancestor are the same
abbrev pub same_line : AncestorLine → AncestorLine → Bool
same_line (Set p a) (Set q b) = same_path p q && same_atom a b
same_line (Drop p) (Drop q) = same_path p q
same_line line other = false

abbrev pub same_lines : List AncestorLine → List AncestorLine → Bool
same_lines = pointwise same_line
