-- Atoms: which are folders, which are tracked, and which are the same.
use Rattle.std.specs.Prelude.{Bool, true, false, not, ◌==◌, ◌&&◌, bytes_eq}
use Rattle.entry_tree.specs.ProblemKind.{problem_number}
use Rattle.entry_tree.specs.declared.problem_kind.ProblemKind.{ProblemKind}
use Rattle.entry_tree.specs.declared.atom.Atom.{Atom}
use Rattle.entry_tree.specs.declared.atom.Atom.TheVariants.{Dir, File, Link, Untracked, Problem}

-- whether an atom is a folder
abbrev pub is_dir : Atom → Bool
is_dir Dir = true
is_dir (File digest executable) = false
is_dir (Link text) = false
is_dir Untracked = false
is_dir (Problem kind) = false

-- whether an atom is a link
abbrev pub is_link : Atom → Bool
is_link Dir = false
is_link (File digest executable) = false
is_link (Link text) = true
is_link Untracked = false
is_link (Problem kind) = false

-- whether an atom is tracked: a folder, a file whose content was seen, or a link
abbrev pub is_tracked : Atom → Bool
is_tracked Dir = true
is_tracked (File digest executable) = true
is_tracked (Link text) = true
is_tracked Untracked = false
is_tracked (Problem kind) = false

-- whether two problems are of one kind
abbrev pub same_kind : ProblemKind → ProblemKind → Bool
same_kind a b = problem_number a == problem_number b

-- whether two bits are the same
abbrev pub same_bit : Bool → Bool → Bool
same_bit true y = y
same_bit false y = not y

-- whether two atoms are the same
abbrev pub same_atom : Atom → Atom → Bool
same_atom Dir Dir = true
same_atom (File a x) (File b y) = bytes_eq a b && same_bit x y
same_atom (Link a) (Link b) = bytes_eq a b
same_atom Untracked Untracked = true
same_atom (Problem a) (Problem b) = same_kind a b
same_atom a b = false
