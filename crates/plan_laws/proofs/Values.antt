-- What stands at a path once lines are taken up, line by line.
use Rattle.std.proofs.Common.{◌≡◌, Bool, true, false, cond, ◌||◌, List, [], ◌∷◌, ◌++◌, refl, sym, ap, ◌∙◌, Option, Some, None}
use Rattle.std.specs.FinMap as trees
use Rattle.std.specs.List.{list_any, AllByRecursion}
use Rattle.std.specs.Option.{option_and_then}
use Rattle.finite_maps.proofs.Constructors.{none_is_not_some, some_same}
use Rattle.entry_tree.specs.Tree.{Names, ByPath}
use Rattle.entry_tree.specs.declared.atom.Atom.{Atom}
use Rattle.mode_rules.specs.declared.ancestor_line.AncestorLine.{AncestorLine}
use Rattle.mode_rules.specs.AncestorFold.{with_line, with_lines}
use Rattle.mode_rules.proofs.Folding.{touches_line, given, GivesLine, get-with_line, with_lines-append}

-- what stands at the path after these lines, where this stood before
abbrev pub value : Names → Option Atom → List AncestorLine → Option Atom
value q w [] = w
value q w (l ∷ ls) = value q (cond (touches_line q l) (given q l) w) ls

-- lines that can be taken up
abbrev pub Takes : ByPath Atom → List AncestorLine → Type 0
Takes tree ls = (m : ByPath Atom) × (with_lines tree ls ≡ Some m)

with_first : (first : Option (ByPath Atom)) (m : ByPath Atom) (ls : List AncestorLine) → option_and_then (λ (next : ByPath Atom). with_lines next ls) first ≡ Some m
    → (next : ByPath Atom) × (first ≡ Some next) × (with_lines next ls ≡ Some m)
with_first None m ls is = absurd (none_is_not_some m is)
with_first (Some next) m ls is = (next, refl, is)

pub get-with_lines : (q : Names) (tree m : ByPath Atom) (ls : List AncestorLine) → with_lines tree ls ≡ Some m → trees.get m q ≡ value q (trees.get tree q) ls
get-with_lines q tree m [] is = ap (λ (x : ByPath Atom). trees.get x q) (sym (some_same tree m is))
get-with_lines q tree m (l ∷ ls) is =
    let step = with_first (with_line tree l) m ls is in
    get-with_lines q step.0 m ls step.2 ∙ ap (λ w. value q w ls) (get-with_line q tree step.0 l step.1)

pub takes-append : (tree : ByPath Atom) (ls ms : List AncestorLine) (first : Takes tree ls) → Takes first.0 ms → Takes tree (ls ++ ms)
takes-append tree ls ms first then = (then.0, with_lines-append tree first.0 ls ms first.1 ∙ then.1)

-- one line more
pub takes-first : (tree next : ByPath Atom) (l : AncestorLine) (ls : List AncestorLine) → with_line tree l ≡ Some next → Takes next ls → Takes tree (l ∷ ls)
takes-first tree next l ls is rest = (rest.0, ap (option_and_then (λ (x : ByPath Atom). with_lines x ls)) is ∙ rest.1)

module _ (q : Names) where
  pub value-append : (w : Option Atom) (ls ms : List AncestorLine) → value q w (ls ++ ms) ≡ value q (value q w ls) ms
  value-append w [] ms = refl
  value-append w (l ∷ ls) ms = value-append (cond (touches_line q l) (given q l) w) ls ms

  -- lines that don't touch the path
  abbrev pub Passes : AncestorLine → Type 0
  Passes l = touches_line q l ≡ false

  pub value-passed : (w : Option Atom) (ls : List AncestorLine) → AllByRecursion Passes ls → value q w ls ≡ w
  value-passed w [] all = refl
  value-passed w (l ∷ ls) all = ap (λ b. value q (cond b (given q l) w) ls) all.0 ∙ value-passed w ls all.1

  stays : (w : Option Atom) (l : AncestorLine) → GivesLine q w l → cond (touches_line q l) (given q l) w ≡ w
  stays w l gives = by (touches_line q l) refl
    where
      by : (b : Bool) → touches_line q l ≡ b → cond (touches_line q l) (given q l) w ≡ w
      by true e = ap (λ b. cond b (given q l) w) e ∙ gives e
      by false e = ap (λ b. cond b (given q l) w) e

  -- where each line that touches the path gives what stands there, it stays
  pub value-kept : (w : Option Atom) (ls : List AncestorLine) → AllByRecursion (GivesLine q w) ls → value q w ls ≡ w
  value-kept w [] all = refl
  value-kept w (l ∷ ls) all = ap (λ x. value q x ls) (stays w l all.0) ∙ value-kept w ls all.1

  -- where there is such a line, and each gives the same, that stands there
  pub value-given : (w x : Option Atom) (ls : List AncestorLine) → AllByRecursion (GivesLine q x) ls → list_any (touches_line q) ls ≡ true → value q w ls ≡ x
  value-given w x [] all some = let no : false ≡ true = some in absurd (cc)
  value-given w x (l ∷ ls) all some = by (touches_line q l) refl some (value-given w x ls all.1)
    where
      by : (b : Bool) → touches_line q l ≡ b → (b || list_any (touches_line q) ls) ≡ true → (list_any (touches_line q) ls ≡ true → value q w ls ≡ x)
          → value q (cond (touches_line q l) (given q l) w) ls ≡ x
      by true e some more = ap (λ b. value q (cond b (given q l) w) ls) e ∙ ap (λ y. value q y ls) (all.0 e) ∙ value-kept x ls all.1
      by false e some more = ap (λ b. value q (cond b (given q l) w) ls) e ∙ more some
