-- What the ancestor holds at a path once lines are taken up.
use Rattle.std.proofs.Common.{◌≡◌, Bool, true, false, cond, not, ◌||◌, List, [], ◌∷◌, ◌++◌, refl, sym, ap, subst, ◌∙◌, Option, Some, None}
use Rattle.std.specs.FinMap as trees
use Rattle.std.specs.List.{list_any, AllByRecursion}
use Rattle.std.specs.Option.{is_some, option_and_then}
use Rattle.std.specs.Ordering.{eq_by_cmp}
use Rattle.finite_maps.proofs.Constructors.{none_is_not_some, some_same}
use Rattle.sync_path.specs.Path.{path_cmp, is_under, is_below}
use Rattle.entry_tree.specs.Atom.{is_dir, is_tracked}
use Rattle.entry_tree.specs.Tree.{Names, ByPath, IsClosed, at_parent, refusal, set_at}
use Rattle.entry_tree.specs.declared.atom.Atom.{Atom}
use Rattle.entry_tree.specs.declared.tree_error.TreeError.{TreeError}
use Rattle.entry_tree.proofs.Maps.{alike}
use Rattle.entry_tree.proofs.Paths.{path_same}
use Rattle.entry_tree.proofs.Trees.{get-set, closed_set, closed_retain, not_under_up}
use Rattle.mode_rules.specs.declared.ancestor_line.AncestorLine.{AncestorLine}
use Rattle.mode_rules.specs.declared.ancestor_line.AncestorLine.TheVariants as lines
use Rattle.mode_rules.specs.AgreedLaws.{SetsTracked}
use Rattle.mode_rules.specs.AncestorFold.{with_line, with_lines}
use Rattle.mode_rules.specs.Laws.{HoldsOnlyTracked}

-- whether a line decides what stands at the path
abbrev pub touches_line : Names → AncestorLine → Bool
touches_line q (lines.Set path atom) = eq_by_cmp path_cmp q path || not (is_dir atom || not (is_below q path))
touches_line q (lines.Drop path) = is_under q path

-- and what stands there then
abbrev pub given : Names → AncestorLine → Option Atom
given q (lines.Set path atom) = cond (eq_by_cmp path_cmp q path) (Some atom) None
given q (lines.Drop path) = None

-- a line that was taken up: what it sets, and that its parent let it
set_taken : (tree m : ByPath Atom) (path : Names) (atom : Atom) (r : Option TreeError) → refusal is_dir (at_parent tree path) ≡ r
    → cond (is_some r) None (Some (set_at is_dir tree path atom)) ≡ Some m → (m ≡ set_at is_dir tree path atom) × (refusal is_dir (at_parent tree path) ≡ None)
set_taken tree m path atom None e is = (sym (some_same _ m is), e)
set_taken tree m path atom (Some x) e is = absurd (none_is_not_some m is)

taken_set : (tree m : ByPath Atom) (path : Names) (atom : Atom) → with_line tree (lines.Set path atom) ≡ Some m → (m ≡ set_at is_dir tree path atom) × (refusal is_dir (at_parent tree path) ≡ None)
taken_set tree m path atom is = set_taken tree m path atom (refusal is_dir (at_parent tree path)) refl is

pub get-with_line : (q : Names) (tree m : ByPath Atom) (l : AncestorLine) → with_line tree l ≡ Some m → trees.get m q ≡ cond (touches_line q l) (given q l) (trees.get tree q)
get-with_line q tree m (lines.Set path atom) is =
    ap (λ (x : ByPath Atom). trees.get x q) (taken_set tree m path atom is).0
    ∙ get-set is_dir tree path atom q
    ∙ by (eq_by_cmp path_cmp q path) (is_dir atom || not (is_below q path))
  where
    by : (a b : Bool) → cond a (Some atom) (cond b (trees.get tree q) None) ≡ cond (a || not b) (cond a (Some atom) None) (trees.get tree q)
    by true b = refl
    by false true = refl
    by false false = refl
get-with_line q tree m (lines.Drop path) is =
    ap (λ (x : ByPath Atom). trees.get x q) (sym (some_same _ m is))
    ∙ trees.get-retain_keys tree (λ p. not (is_under p path)) q (alike path_same (λ p. not (is_under p path)) q)
    ∙ by (is_under q path)
  where
    by : (b : Bool) → cond (not b) (trees.get tree q) None ≡ cond b None (trees.get tree q)
    by true = refl
    by false = refl

-- a tree stays closed under parents
closed-with_line : (tree m : ByPath Atom) (l : AncestorLine) → with_line tree l ≡ Some m → IsClosed is_dir tree → IsClosed is_dir m
closed-with_line tree m (lines.Set path atom) is closed =
    let taken = taken_set tree m path atom is in
    subst (IsClosed is_dir) (sym taken.0) (closed_set is_dir tree path atom closed taken.1)
closed-with_line tree m (lines.Drop path) is closed =
    subst (IsClosed is_dir) (some_same _ m is) (closed_retain is_dir tree closed (λ q. not (is_under q path)) (not_under_up path))

-- and holds only what is tracked
tracked-with_line : (tree m : ByPath Atom) (l : AncestorLine) → with_line tree l ≡ Some m → SetsTracked l → HoldsOnlyTracked tree → HoldsOnlyTracked m
tracked-with_line tree m l is sets tracked q atom at = by l sets (touches_line q l) refl (sym (get-with_line q tree m l is) ∙ at)
  where
    set : (b : Bool) (x : Atom) → is_tracked x ≡ true → cond b (Some x) None ≡ Some atom → is_tracked atom ≡ true
    set true x h e = ap is_tracked (sym (some_same x atom e)) ∙ h
    set false x h e = absurd (none_is_not_some atom e)

    one : (l : AncestorLine) → SetsTracked l → given q l ≡ Some atom → is_tracked atom ≡ true
    one (lines.Set path x) h e = set (eq_by_cmp path_cmp q path) x h e
    one (lines.Drop path) h e = absurd (none_is_not_some atom e)

    by : (l : AncestorLine) → SetsTracked l → (b : Bool) → touches_line q l ≡ b → cond (touches_line q l) (given q l) (trees.get tree q) ≡ Some atom → is_tracked atom ≡ true
    by l h true e is = one l h (ap (λ b. cond b (given q l) (trees.get tree q)) (sym e) ∙ is)
    by l h false e is = tracked q atom (ap (λ b. cond b (given q l) (trees.get tree q)) (sym e) ∙ is)

-- all lines, the first one first
pub with_first : (first : Option (ByPath Atom)) (m : ByPath Atom) (ls : List AncestorLine) → option_and_then (λ (next : ByPath Atom). with_lines next ls) first ≡ Some m
    → (next : ByPath Atom) × (first ≡ Some next) × (with_lines next ls ≡ Some m)
with_first None m ls is = absurd (none_is_not_some m is)
with_first (Some next) m ls is = (next, refl, is)

pub with_lines-append : (tree m : ByPath Atom) (ls ms : List AncestorLine) → with_lines tree ls ≡ Some m → with_lines tree (ls ++ ms) ≡ with_lines m ms
with_lines-append tree m [] ms is = ap (λ (x : ByPath Atom). with_lines x ms) (some_same tree m is)
with_lines-append tree m (l ∷ ls) ms is =
    let step = with_first (with_line tree l) m ls is in
    ap (option_and_then (λ (next : ByPath Atom). with_lines next (ls ++ ms))) step.1 ∙ with_lines-append step.0 m ls ms step.2

pub fold_closed : (tree m : ByPath Atom) (ls : List AncestorLine) → with_lines tree ls ≡ Some m → IsClosed is_dir tree → IsClosed is_dir m
fold_closed tree m [] is closed = subst (IsClosed is_dir) (some_same tree m is) closed
fold_closed tree m (l ∷ ls) is closed =
    let step = with_first (with_line tree l) m ls is in
    fold_closed step.0 m ls step.2 (closed-with_line tree step.0 l step.1 closed)

pub fold_tracked : (tree m : ByPath Atom) (ls : List AncestorLine) → with_lines tree ls ≡ Some m → AllByRecursion SetsTracked ls → HoldsOnlyTracked tree → HoldsOnlyTracked m
fold_tracked tree m [] is sets tracked = subst HoldsOnlyTracked (some_same tree m is) tracked
fold_tracked tree m (l ∷ ls) is sets tracked =
    let step = with_first (with_line tree l) m ls is in
    fold_tracked step.0 m ls step.2 sets.1 (tracked-with_line tree step.0 l step.1 sets.0 tracked)

module _ (q : Names) where
  -- if a line decides what stands at the path, it gives this
  abbrev pub GivesLine : Option Atom → AncestorLine → Type 0
  GivesLine w l = touches_line q l ≡ true → given q l ≡ w

  line_value : (w : Option Atom) (tree m : ByPath Atom) (l : AncestorLine) → with_line tree l ≡ Some m → GivesLine w l → (touches_line q l ≡ false → trees.get tree q ≡ w) → trees.get m q ≡ w
  line_value w tree m l is gives stays = get-with_line q tree m l is ∙ by (touches_line q l) refl
    where
      by : (b : Bool) → touches_line q l ≡ b → cond (touches_line q l) (given q l) (trees.get tree q) ≡ w
      by true e = ap (λ b. cond b (given q l) (trees.get tree q)) e ∙ gives e
      by false e = ap (λ b. cond b (given q l) (trees.get tree q)) e ∙ stays e

  -- where each line that does gives what is held, that is held
  pub fold_kept : (w : Option Atom) (tree m : ByPath Atom) (ls : List AncestorLine) → with_lines tree ls ≡ Some m → AllByRecursion (GivesLine w) ls → trees.get tree q ≡ w → trees.get m q ≡ w
  fold_kept w tree m [] is all held = ap (λ (x : ByPath Atom). trees.get x q) (sym (some_same tree m is)) ∙ held
  fold_kept w tree m (l ∷ ls) is all held =
      let step = with_first (with_line tree l) m ls is in
      fold_kept w step.0 m ls step.2 all.1 (line_value w tree step.0 l step.1 all.0 (λ _. held))

  -- where there is such a line, and each gives the same, that is held
  pub fold_given : (w : Option Atom) (tree m : ByPath Atom) (ls : List AncestorLine) → with_lines tree ls ≡ Some m → AllByRecursion (GivesLine w) ls → list_any (touches_line q) ls ≡ true
      → trees.get m q ≡ w
  fold_given w tree m [] is all some = absurd (cc)
  fold_given w tree m (l ∷ ls) is all some =
      let step = with_first (with_line tree l) m ls is in
      by (touches_line q l) refl some step.0 step.1 step.2 (fold_given w step.0 m ls step.2 all.1)
    where
      by : (b : Bool) → touches_line q l ≡ b → (b || list_any (touches_line q) ls) ≡ true → (next : ByPath Atom) → with_line tree l ≡ Some next → with_lines next ls ≡ Some m
          → (list_any (touches_line q) ls ≡ true → trees.get m q ≡ w) → trees.get m q ≡ w
      by true e some next first rest more =
          fold_kept w next m ls rest all.1 (line_value w tree next l first all.0 (λ f. let no : true ≡ false = sym e ∙ f in absurd (cc)))
      by false e some next first rest more = more some
