-- What stands at a path once lines are taken up, line by line.
use Rattle.std.proofs.Common.{◌≡◌, Bool, true, false, cond, ◌||◌, List, [], ◌∷◌, refl, sym, ap, ◌∙◌, Option, Some}
use Rattle.std.specs.FinMap as map
use Rattle.finite_maps.proofs.Constructors.{some_same}
use Rattle.entry_tree.specs.Tree.{Names, ByPath}
use Rattle.entry_tree.specs.declared.atom.Atom.{Atom}
use Rattle.mode_rules.specs.declared.ancestor_line.AncestorLine.{AncestorLine}
use Rattle.mode_rules.specs.AncestorFold.{with_line, with_lines}
use Rattle.mode_rules.proofs.Folding.{touches_line, given, get-with_line, with_first}
use Rattle.ancestor_store.specs.Settling.{touched}

-- what stands at the path after these lines, where this stood before
abbrev pub value : Names → Option Atom → List AncestorLine → Option Atom
value q w [] = w
value q w (l ∷ ls) = value q (cond (touches_line q l) (given q l) w) ls

pub get-with_lines : (q : Names) (tree m : ByPath Atom) (ls : List AncestorLine) → with_lines tree ls ≡ Some m → map.get m q ≡ value q (map.get tree q) ls
get-with_lines q tree m [] is = ap (λ (x : ByPath Atom). map.get x q) (sym (some_same tree m is))
get-with_lines q tree m (l ∷ ls) is =
    let step = with_first (with_line tree l) m ls is in
    get-with_lines q step.0 m ls step.2 ∙ ap (λ w. value q w ls) (get-with_line q tree step.0 l step.1)

pub rest_touched : (b c : Bool) → b ≡ false → (b || c) ≡ true → c ≡ true
rest_touched true c e h = absurd (cc)
rest_touched false c e h = h

first_passed : (b c : Bool) → (b || c) ≡ false → b ≡ false
first_passed true c h = absurd (cc)
first_passed false c h = refl

rest_passed : (b c : Bool) → (b || c) ≡ false → c ≡ false
rest_passed true c h = absurd (cc)
rest_passed false c h = h

-- where a line decides the path, it doesn't matter what stood there
pub value_touched : (q : Names) (w v : Option Atom) (ls : List AncestorLine) → touched q ls ≡ true → value q w ls ≡ value q v ls
value_touched q w v [] t = let no : false ≡ true = t in absurd (cc)
value_touched q w v (l ∷ ls) t = by (touches_line q l) refl (value_touched q (cond (touches_line q l) (given q l) w) (cond (touches_line q l) (given q l) v) ls)
  where
    by : (b : Bool) → touches_line q l ≡ b
        → (touched q ls ≡ true → value q (cond (touches_line q l) (given q l) w) ls ≡ value q (cond (touches_line q l) (given q l) v) ls)
        → value q (cond (touches_line q l) (given q l) w) ls ≡ value q (cond (touches_line q l) (given q l) v) ls
    by true e more = ap (λ b. value q (cond b (given q l) w) ls) e ∙ sym (ap (λ b. value q (cond b (given q l) v) ls) e)
    by false e more = more (rest_touched (touches_line q l) (touched q ls) e t)

-- where none does, that stays
pub value_passed : (q : Names) (w : Option Atom) (ls : List AncestorLine) → touched q ls ≡ false → value q w ls ≡ w
value_passed q w [] t = refl
value_passed q w (l ∷ ls) t =
    ap (λ b. value q (cond b (given q l) w) ls) (first_passed (touches_line q l) (touched q ls) t) ∙ value_passed q w ls (rest_passed (touches_line q l) (touched q ls) t)
