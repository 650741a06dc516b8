-- The tests of sameness hold of what is the same alone.
use lib.Pointwise.{pointwise}
use Rattle.std.proofs.Common.{◌≡◌, true, List, [], ◌∷◌, refl, ap, Option, Some, Ordering, Less, Equal, Greater}
use Rattle.std.specs.Ordering.{is_eq}
use Rattle.std.proofs.lemmas.Bool.{and_parts}
use Rattle.sync_path.specs.Path.{path_cmp}
use Rattle.sync_path.proofs.Intervals.{path_cmp_exact}
use Rattle.entry_tree.specs.Atom.{same_atom}
use Rattle.entry_tree.specs.Tree.{Names}
use Rattle.entry_tree.specs.declared.atom.Atom.{Atom}
use Rattle.finite_maps.proofs.Constructors.{some_same}
use Rattle.mode_rules.proofs.Cases.{same_is}
use Rattle.mode_rules.specs.declared.ancestor_line.AncestorLine.{AncestorLine}
use Rattle.mode_rules.specs.declared.ancestor_line.AncestorLine.TheVariants.{Set, Drop}
use Rattle.scan_laws.specs.Seen.{same_path}
use Rattle.cycle_law.specs.Licences.{is_there}
use Rattle.cycle_law.specs.Sameness.{same_line, same_lines}

equal_is : (r : Ordering) → is_eq r ≡ true → r ≡ Equal
equal_is Less e = absurd (cc)
equal_is Equal e = refl
equal_is Greater e = absurd (cc)

pub same_path_is : (p q : Names) → same_path p q ≡ true → p ≡ q
same_path_is p q e = path_cmp_exact p q (equal_is (path_cmp p q) e)

pub there_is : (found : Option Atom) (a : Atom) → is_there found a ≡ true → found ≡ Some a
there_is found a e = same_is found (Some a) e

atom_is : (a b : Atom) → same_atom a b ≡ true → a ≡ b
atom_is a b e = some_same a b (same_is (Some a) (Some b) e)

line_is : (l m : AncestorLine) → same_line l m ≡ true → l ≡ m
line_is (Set p a) (Set q b) e = let both = and_parts (same_path p q) (same_atom a b) e in λ i. Set (same_path_is p q both.0 i) (atom_is a b both.1 i)
line_is (Drop p) (Drop q) e = ap Drop (same_path_is p q e)
line_is (Set p a) (Drop q) e = absurd (cc)
line_is (Drop p) (Set q b) e = absurd (cc)

pub lines_are : (ls ms : List AncestorLine) → same_lines ls ms ≡ true → ls ≡ ms
lines_are [] [] e = refl
lines_are [] (m ∷ ms) e = absurd (cc)
lines_are (l ∷ ls) [] e = absurd (cc)
lines_are (l ∷ ls) (m ∷ ms) e =
    let both = and_parts (same_line l m) (pointwise same_line ls ms) e in
    λ i. line_is l m both.0 i ∷ lines_are ls ms both.1 i
