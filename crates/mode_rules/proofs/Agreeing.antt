-- The agreed lines of a plan, taken up one after the other.
use Rattle.std.proofs.Common.{◌≡◌, Bool, true, false, cond, not, ◌||◌, List, [], ◌∷◌, ◌++◌, refl, sym, ap, subst, ◌∙◌, inl, inr, Option, Some, None, append_assoc}
use Rattle.std.specs.Prelude.{◌&&◌, ◌⊎◌}
use Rattle.std.specs.FinMap as trees
use Rattle.std.specs.List.{filter, filter_map, cons_option, list_any, AllByRecursion}
use Rattle.std.specs.List.Sorted.{IsStrictlySortedBy}
use Rattle.std.specs.Option.{is_some, option_map, option_and_then}
use Rattle.std.specs.Ordering.{is_eq, is_lt, eq_by_cmp, ordering_reverse}
use Rattle.std.specs.declared.cmp.Ordering.{Ordering}
use Rattle.std.specs.declared.cmp.Ordering.TheVariants.{Less, Equal, Greater}
use Rattle.std.proofs.lemmas.Bool.{and_parts, or_cases}
use Rattle.std.proofs.lemmas.Cmp.{tied_itself}
use Rattle.std.proofs.lemmas.List.{append-nil}
use Rattle.std.proofs.lemmas.List.Folds.{list_any-append}
use Rattle.std.proofs.lemmas.Map.Keys.{sorted_head, sorted_tail}
use Rattle.finite_maps.proofs.Constructors.{none_is_not_some, some_same}
use Rattle.sync_path.specs.Path.{path_cmp, is_under, is_below, parent_of}
use Rattle.sync_path.specs.PathOrder.{path_cmp_total}
use Rattle.sync_path.proofs.Below.{below_is}
use Rattle.entry_tree.specs.Atom.{is_dir, is_tracked}
use Rattle.entry_tree.specs.Tree.{Names, ByPath, at_parent, refusal, set_at}
use Rattle.entry_tree.specs.declared.atom.Atom.{Atom}
use Rattle.entry_tree.specs.declared.atom.Atom.TheVariants.{Dir}
use Rattle.entry_tree.specs.declared.tree_error.TreeError.{TreeError}
use Rattle.entry_tree.proofs.Paths.{under_itself, child_below}
use Rattle.entry_tree.proofs.Trees.{root_or_child, parent-child, tie_is}
use Rattle.mode_rules.specs.declared.ancestor_line.AncestorLine.{AncestorLine}
use Rattle.mode_rules.specs.declared.ancestor_line.AncestorLine.TheVariants as lines
use Rattle.mode_rules.specs.declared.mode.Mode.{Mode}
use Rattle.mode_rules.specs.declared.verdict.Verdict.{Verdict}
use Rattle.mode_rules.specs.declared.verdict.Verdict.TheVariants as verdicts
use Rattle.mode_rules.specs.AgreedLaws.{SetsTracked, AgreedFold}
use Rattle.mode_rules.specs.AncestorFold.{with_line, with_lines}
use Rattle.mode_rules.specs.ChangeLaws.{AreClosed}
use Rattle.mode_rules.specs.Laws.{HoldsOnlyTracked}
use Rattle.mode_rules.specs.Plans.{line_at, line_of, plan_of}
use Rattle.mode_rules.specs.PointLaws.{line_path}
use Rattle.mode_rules.specs.Trees.{Trees, paths_of, is_point, holds_folder, is_blocked, same_there}
use Rattle.mode_rules.specs.Verdicts.{comparison, verdict}
use Rattle.mode_rules.proofs.After.{any_kept}
use Rattle.mode_rules.proofs.Below.{under_through, below_is_under, folders, Decider}
use Rattle.mode_rules.proofs.Cases.{agreed_is, folder_there, same_is}
use Rattle.mode_rules.proofs.Deciding.{IsAmong, each_among, paths_sorted, folder_agrees, among_above, clear_above, one_point, decider_is_point}
use Rattle.mode_rules.proofs.Folding.{touches_line, given, GivesLine, with_lines-append, fold_closed, fold_tracked, fold_kept, fold_given}
use Rattle.mode_rules.proofs.ListLaws.{kept_in}
use Rattle.mode_rules.proofs.PlanPaths.{line_there, folder_line, agreed_line}

-- a line of another path's doesn't decide what stands at a path that isn't at or below it
pub untouched : (q : Names) (l : AncestorLine) → is_under q (line_path l) ≡ false → touches_line q l ≡ false
untouched q (lines.Drop path) e = e
untouched q (lines.Set path atom) e = by (eq_by_cmp path_cmp q path) refl
  where
    below : is_below q path ≡ false
    below = below_is_under q path ∙ ap (λ b. b && not (is_under path q)) e

    last : (b c : Bool) → c ≡ false → not (b || not c) ≡ false
    last true c e = refl
    last false true e = absurd (cc)
    last false false e = refl

    by : (b : Bool) → eq_by_cmp path_cmp q path ≡ b → (b || not (is_dir atom || not (is_below q path))) ≡ false
    by true t = let no : true ≡ false = sym (under_itself path) ∙ ap (λ x. is_under x path) (sym (tie_is q path t)) ∙ e in cc
    by false t = last (is_dir atom) (is_below q path) below

-- nor does a folder that is set above it
folder_untouched : (q p : Names) → is_under p q ≡ false → touches_line q (lines.Set p Dir) ≡ false
folder_untouched q p out = by (eq_by_cmp path_cmp q p) refl
  where
    by : (b : Bool) → eq_by_cmp path_cmp q p ≡ b → (b || false) ≡ false
    by true t = let no : true ≡ false = sym (under_itself q) ∙ ap (λ x. is_under x q) (tie_is q p t) ∙ out in cc
    by false t = refl

pub not_touched : (q : Names) (w : Option Atom) (l : AncestorLine) → touches_line q l ≡ false → GivesLine q w l
not_touched q w l e there = let no : true ≡ false = sym there ∙ e in absurd (cc)

pub less_before : (p r : Names) → is_under p r ≡ true → is_under r p ≡ false → path_cmp r p ≡ Less
less_before p r up down =
    let below : (is_lt (path_cmp r p) && is_under p r) ≡ true = sym (below_is p r) ∙ below_is_under p r ∙ (λ i. up i && not (down i)) in
    is_less (path_cmp r p) (and_parts (is_lt (path_cmp r p)) (is_under p r) below).0
  where
    is_less : (o : Ordering) → is_lt o ≡ true → o ≡ Less
    is_less Less e = refl
    is_less Equal e = absurd (cc)
    is_less Greater e = absurd (cc)

not_both_less : (p r : Names) → path_cmp r p ≡ Less → path_cmp p r ≡ Less → ⊥
not_both_less p r e f = let no : Less ≡ Greater = sym f ∙ path_cmp_total.antisymm p r ∙ ap ordering_reverse e in cc

-- what stands before a path in order, among paths in order, is among those before it
pub among_front : (front : List Names) (p r : Names) (rest : List Names) → IsStrictlySortedBy path_cmp (front ++ p ∷ rest) → path_cmp r p ≡ Less
    → list_any (eq_by_cmp path_cmp r) (front ++ p ∷ rest) ≡ true → list_any (eq_by_cmp path_cmp r) front ≡ true
among_front front p r rest sorted less has =
    elim (or_cases (list_any (eq_by_cmp path_cmp r) front) _ (sym (list_any-append (eq_by_cmp path_cmp r) front (p ∷ rest)) ∙ has)) [
      | inl here ↦ here
      | inr later ↦ absurd (behind (sorted_end front sorted) later)
    ]
  where
    sorted_end : (xs : List Names) → IsStrictlySortedBy path_cmp (xs ++ p ∷ rest) → IsStrictlySortedBy path_cmp (p ∷ rest)
    sorted_end [] s = s
    sorted_end (x ∷ xs) s = sorted_end xs (sorted_tail path_cmp x (xs ++ p ∷ rest) s)

    none : (ps : List Names) → AllByRecursion (λ q. path_cmp p q ≡ Less) ps → list_any (eq_by_cmp path_cmp r) ps ≡ true → ⊥
    none [] all h = let no : false ≡ true = h in cc
    none (q ∷ ps) all h =
        elim (or_cases (eq_by_cmp path_cmp r q) _ h) [
          | inl tie ↦ not_both_less p r less (ap (path_cmp p) (tie_is r q tie) ∙ all.0)
          | inr more ↦ none ps all.1 more
        ]

    behind : IsStrictlySortedBy path_cmp (p ∷ rest) → list_any (eq_by_cmp path_cmp r) (p ∷ rest) ≡ true → ⊥
    behind s h =
        elim (or_cases (eq_by_cmp path_cmp r p) _ h) [
          | inl tie ↦ let no : Equal ≡ Less = sym (tied_itself path_cmp_total p) ∙ ap (λ x. path_cmp x p) (sym (tie_is r p tie)) ∙ less in cc
          | inr more ↦ none rest (sorted_head path_cmp p rest s) more
        ]

pub all_front : {X : Type 0} (P : X → Type 0) (xs ys : List X) → AllByRecursion P (xs ++ ys) → AllByRecursion P xs
all_front P [] ys h = tt
all_front P (x ∷ xs) ys h = (h.0, all_front P xs ys h.1)

filter_of-append : {X : Type 0} (test : X → Bool) (xs ys : List X) → filter test (xs ++ ys) ≡ filter test xs ++ filter test ys
filter_of-append test [] ys = refl
filter_of-append test (x ∷ xs) ys = by (test x) (filter_of-append test xs ys)
  where
    by : (b : Bool) → filter test (xs ++ ys) ≡ filter test xs ++ filter test ys
        → cond b (x ∷ filter test (xs ++ ys)) (filter test (xs ++ ys)) ≡ cond b (x ∷ filter test xs) (filter test xs) ++ filter test ys
    by true e = ap (λ l. x ∷ l) e
    by false e = e

pub answers-append : {X Y : Type 0} (f : X → Option Y) (xs ys : List X) → filter_map f (xs ++ ys) ≡ filter_map f xs ++ filter_map f ys
answers-append f [] ys = refl
answers-append f (x ∷ xs) ys = ap (cons_option (f x)) (answers-append f xs ys) ∙ by (f x) (filter_map f xs)
  where
    by : (o : Option _) (l : List _) → cons_option o (l ++ filter_map f ys) ≡ cons_option o l ++ filter_map f ys
    by None l = refl
    by (Some y) l = refl

tracked_is : (x : Atom) → is_blocked (Some x) ≡ false → is_tracked x ≡ true
tracked_is x e = by (is_tracked x) e
  where
    by : (b : Bool) → not b ≡ false → b ≡ true
    by true e = refl
    by false e = absurd (cc)

-- a line that sets something can be taken up where all above its path are folders
pub let_set : (m : ByPath Atom) (p : Names) (atom : Atom) → ((r : Names) → is_under p r ≡ true → is_under r p ≡ false → trees.get m r ≡ Some Dir) → (next : ByPath Atom) × (with_line m (lines.Set p atom) ≡ Some next)
let_set m p atom above = (set_at is_dir m p atom, ap (λ (r : Option TreeError). cond (is_some r) None (Some (set_at is_dir m p atom))) allowed)
  where
    turned : (b : Bool) → not b ≡ true → b ≡ false
    turned true e = absurd (cc)
    turned false e = refl

    allowed : refusal is_dir (at_parent m p) ≡ None
    allowed =
        elim (root_or_child p) [
          | inl root ↦ ap (λ (x : Names). refusal is_dir (option_map (trees.get m) (parent_of x))) root
          | inr child ↦
              ap (λ (x : Names). refusal is_dir (option_map (trees.get m) (parent_of x))) child.2
              ∙ ap (λ (o : Option Names). refusal is_dir (option_map (trees.get m) o)) (parent-child child.0 child.1)
              ∙ ap (λ (o : Option Atom). refusal is_dir (Some o))
              (let below : (is_under p child.0 && not (is_under child.0 p)) ≡ true =
              sym (below_is_under p child.0) ∙ ap (λ (x : Names). is_below x child.0) child.2 ∙ child_below child.0 child.1 in
              let both = and_parts (is_under p child.0) (not (is_under child.0 p)) below in
              above child.0 both.0 (turned (is_under child.0 p) both.1))
        ]

module _ (mode : Mode) (t : Trees) where
  -- the lines of these paths
  abbrev pub lines_in : List Names → List AncestorLine
  lines_in ps = filter_map (line_at mode t) (filter (is_point t) ps)

  lines_in-append : (ps qs : List Names) → lines_in (ps ++ qs) ≡ lines_in ps ++ lines_in qs
  lines_in-append ps qs = ap (filter_map (line_at mode t)) (filter_of-append (is_point t) ps qs) ∙ answers-append (line_at mode t) (filter (is_point t) ps) (filter (is_point t) qs)

  sets_by : (p : Names) (v : Verdict) (l : AncestorLine) → verdict mode t p ≡ v → line_of p (trees.get t.ancestor p) (trees.get t.alpha p) v ≡ Some l → SetsTracked l
  sets_by p verdicts.Agreed l is e =
      let sets = agreed_line p (trees.get t.ancestor p) (trees.get t.alpha p) l e in
      let free = (agreed_is mode (trees.get t.alpha p) (trees.get t.beta p) (comparison t t.alpha p) (comparison t t.beta p) is).1 in
      subst SetsTracked (sym sets.2) (tracked_is sets.0 (ap is_blocked (sym sets.1) ∙ free))
  sets_by p verdicts.Gone l is e = dropped (is_some (trees.get t.ancestor p)) e
    where
      dropped : (b : Bool) → cond b (Some (lines.Drop p)) None ≡ Some l → SetsTracked l
      dropped true f = subst SetsTracked (some_same _ l f) tt
      dropped false f = absurd (none_is_not_some l f)
  sets_by p verdicts.BetaKeeps l is e = dropped (is_some (trees.get t.ancestor p)) e
    where
      dropped : (b : Bool) → cond b (Some (lines.Drop p)) None ≡ Some l → SetsTracked l
      dropped true f = subst SetsTracked (some_same _ l f) tt
      dropped false f = absurd (none_is_not_some l f)
  sets_by p verdicts.Left l is e = absurd (none_is_not_some l e)
  sets_by p verdicts.Blocked l is e = absurd (none_is_not_some l e)
  sets_by p verdicts.AlphaTakes l is e = absurd (none_is_not_some l e)
  sets_by p verdicts.BetaTakes l is e = absurd (none_is_not_some l e)
  sets_by p verdicts.AlphaEmptied l is e = absurd (none_is_not_some l e)
  sets_by p verdicts.BetaEmptied l is e = absurd (none_is_not_some l e)
  sets_by p verdicts.Both l is e = absurd (none_is_not_some l e)

  line_sets : (p : Names) (l : AncestorLine) → line_at mode t p ≡ Some l → SetsTracked l
  unfolding line_at
  line_sets p l e = sets_by p (verdict mode t p) l refl e

  -- each line sets what is tracked
  pub lines_set : AllByRecursion SetsTracked (plan_of mode t).agreed
  lines_set = kept_in (IsAmong t) (is_point t) (line_at mode t) SetsTracked (λ p _ _ l e. line_sets p l e) (paths_of t) (each_among t)

  -- the line of a folder on both sides, where the ancestor holds none
  folder_line_is : (p : Names) → folders t p ≡ true → (trees.get t.ancestor p ≡ Some Dir) ⊎ (line_at mode t p ≡ Some (lines.Set p Dir))
  unfolding line_at
  folder_line_is p folder =
      let a : trees.get t.alpha p ≡ Some Dir = folder_there _ (and_parts (holds_folder (trees.get t.alpha p)) (holds_folder (trees.get t.beta p)) folder).0 in
      let is : line_of p (trees.get t.ancestor p) (trees.get t.alpha p) (verdict mode t p) ≡ cond (same_there (trees.get t.ancestor p) (Some Dir)) None (Some (lines.Set p Dir)) =
      (λ i. line_of p (trees.get t.ancestor p) (a i) (folder_agrees t mode p folder i)) in
      by (same_there (trees.get t.ancestor p) (Some Dir)) refl is
    where
      by : (b : Bool) → same_there (trees.get t.ancestor p) (Some Dir) ≡ b
          → line_of p (trees.get t.ancestor p) (trees.get t.alpha p) (verdict mode t p) ≡ cond (same_there (trees.get t.ancestor p) (Some Dir)) None (Some (lines.Set p Dir))
          → (trees.get t.ancestor p ≡ Some Dir) ⊎ (line_of p (trees.get t.ancestor p) (trees.get t.alpha p) (verdict mode t p) ≡ Some (lines.Set p Dir))
      by true e is = inl (same_is (trees.get t.ancestor p) (Some Dir) e)
      by false e is = inr (is ∙ ap (λ b. cond b None (Some (lines.Set p Dir))) e)

  module _ (closed : AreClosed t) where
    module _ (q : Names) (d : Decider t q) where
      -- what the deciding path's line gives, each line that touches the path gives
      pub lines_give : (w : Option Atom) → ((l : AncestorLine) → line_at mode t d.at ≡ Some l → GivesLine q w l) → (ps : List Names) → AllByRecursion (IsAmong t) ps
          → AllByRecursion (GivesLine q w) (lines_in ps)
      lines_give w here ps among =
          kept_in (IsAmong t) (is_point t) (line_at mode t) (GivesLine q w) (λ p has point l is. at_point p has point l is (is_under q p) refl) ps among
        where
          at_point : (p : Names) → IsAmong t p → is_point t p ≡ true → (l : AncestorLine) → line_at mode t p ≡ Some l → (b : Bool) → is_under q p ≡ b → GivesLine q w l
          at_point p has point l is false apart = not_touched q w l (untouched q l (ap (is_under q) (line_there mode t p l is) ∙ apart))
          at_point p has point l is true under =
              elim (one_point t closed q d p point has under) [
                | inl same ↦ here l (ap (line_at mode t) (sym same) ∙ is)
                | inr over ↦
                    not_touched q w l (ap (touches_line q) (folder_line mode t p l over.folder is)
                    ∙ folder_untouched q p (aside p over.outside (is_under p q) refl))
              ]
            where
              aside : (p : Names) → is_under p d.at ≡ false → (b : Bool) → is_under p q ≡ b → b ≡ false
              aside p out true up = let no : true ≡ false = sym (under_through p q d.at up d.under) ∙ out in absurd (cc)
              aside p out false up = refl

    -- a folder on both sides is a folder of the ancestor, once the lines before it in path order are taken up
    folder_stands : (front : List Names) (p : Names) (rest : List Names) → front ++ p ∷ rest ≡ paths_of t → (m : ByPath Atom) → with_lines t.ancestor (lines_in front) ≡ Some m
        → is_point t p ≡ true → IsAmong t p → (r : Names) → is_under p r ≡ true → is_under r p ≡ false → trees.get m r ≡ Some Dir
    folder_stands front p rest whole m folds point has r up down =
        elim (folder_line_is r folder) [
          | inl held ↦ fold_kept r (Some Dir) t.ancestor m (lines_in front) folds all held
          | inr writes ↦
              fold_given r (Some Dir) t.ancestor m (lines_in front) folds all
              (any_kept (touches_line r) (is_point t) (line_at mode t) r (lines.Set r Dir) (decider_is_point t r d) writes (ap (λ b. b || false) (ap is_eq (tied_itself path_cmp_total r))) front before)
        ]
      where
        folder : folders t r ≡ true
        folder = clear_above t closed p point has r up down

        above : (x : Names) → is_under r x ≡ true → is_under x r ≡ false → folders t x ≡ true
        above x up_x down_x = clear_above t closed p point has x (under_through p r x up up_x) (by (is_under x p) refl)
          where
            by : (b : Bool) → is_under x p ≡ b → b ≡ false
            by true e = let no : true ≡ false = sym (under_through x p r e up) ∙ down_x in absurd (cc)
            by false e = refl

        d : Decider t r
        d = record { at = r; under = under_itself r; clear = above; stop = inl refl }

        gives : (l : AncestorLine) → line_at mode t r ≡ Some l → GivesLine r (Some Dir) l
        gives l is there = ap (given r) (folder_line mode t r l folder is) ∙ ap (λ b. cond b (Some Dir) None) (ap is_eq (tied_itself path_cmp_total r))

        all : AllByRecursion (GivesLine r (Some Dir)) (lines_in front)
        all = lines_give r d (Some Dir) gives front (all_front (IsAmong t) front (p ∷ rest) (subst (AllByRecursion (IsAmong t)) (sym whole) (each_among t)))

        before : list_any (eq_by_cmp path_cmp r) front ≡ true
        before =
            among_front front p r rest (subst (IsStrictlySortedBy path_cmp) (sym whole) (paths_sorted t)) (less_before p r up down)
            (ap (list_any (eq_by_cmp path_cmp r)) whole ∙ among_above t closed p r has up down)

    -- a line can be taken up once those before it are
    next_line : (front : List Names) (p : Names) (rest : List Names) → front ++ p ∷ rest ≡ paths_of t → (m : ByPath Atom) → with_lines t.ancestor (lines_in front) ≡ Some m
        → is_point t p ≡ true → IsAmong t p → (l : AncestorLine) → line_path l ≡ p → (next : ByPath Atom) × (with_line m l ≡ Some next)
    next_line front p rest whole m folds point has (lines.Drop path) at = (_, refl)
    next_line front p rest whole m folds point has (lines.Set path atom) at =
        let_set m path atom (λ r up down. folder_stands front p rest whole m folds point has r (sym (ap (λ x. is_under x r) at) ∙ up) (sym (ap (is_under r) at) ∙ down))

    one_more : (front : List Names) (p : Names) (rest : List Names) → front ++ p ∷ rest ≡ paths_of t → (m : ByPath Atom) → with_lines t.ancestor (lines_in front) ≡ Some m → IsAmong t p
        → (next : ByPath Atom) × (with_lines m (lines_in (p ∷ [])) ≡ Some next)
    one_more front p rest whole m folds has = by (is_point t p) refl
      where
        with_answer : is_point t p ≡ true → (o : Option AncestorLine) → line_at mode t p ≡ o → (next : ByPath Atom) × (with_lines m (cons_option o []) ≡ Some next)
        with_answer point None is = (m, refl)
        with_answer point (Some l) is =
            let next = next_line front p rest whole m folds point has l (line_there mode t p l is) in
            (next.0, ap (option_and_then (λ (x : ByPath Atom). Some x)) next.1)

        by : (b : Bool) → is_point t p ≡ b → (next : ByPath Atom) × (with_lines m (filter_map (line_at mode t) (cond b (p ∷ []) [])) ≡ Some next)
        by true e = with_answer e (line_at mode t p) refl
        by false e = (m, refl)

    folds_from : (rest front : List Names) → front ++ rest ≡ paths_of t → (m : ByPath Atom) → with_lines t.ancestor (lines_in front) ≡ Some m
        → (tree : ByPath Atom) × (with_lines t.ancestor (lines_in (paths_of t)) ≡ Some tree)
    folds_from [] front whole m folds = (m, ap (λ ps. with_lines t.ancestor (lines_in ps)) (sym whole ∙ append-nil front) ∙ folds)
    folds_from (p ∷ rest) front whole m folds =
        let has : IsAmong t p = (behind front (subst (AllByRecursion (IsAmong t)) (sym whole) (each_among t))).0 in
        let next = one_more front p rest whole m folds has in
        folds_from rest (front ++ p ∷ []) (append_assoc front (p ∷ []) rest ∙ whole) next.0
        (ap (with_lines t.ancestor) (lines_in-append front (p ∷ [])) ∙ with_lines-append t.ancestor m (lines_in front) (lines_in (p ∷ [])) folds ∙ next.1)
      where
        behind : (xs : List Names) → AllByRecursion (IsAmong t) (xs ++ p ∷ rest) → AllByRecursion (IsAmong t) (p ∷ rest)
        behind [] h = h
        behind (x ∷ xs) h = behind xs h.1

    -- all agreed lines can be taken up
    pub folds : (tree : ByPath Atom) × (with_lines t.ancestor (plan_of mode t).agreed ≡ Some tree)
    folds = folds_from (paths_of t) [] refl t.ancestor refl

    pub agreed_fold : HoldsOnlyTracked t.ancestor → AgreedFold t.ancestor (plan_of mode t).agreed
    agreed_fold tracked = record {
      tree = folds.0;
      folds = folds.1;
      closed = fold_closed t.ancestor folds.0 (plan_of mode t).agreed folds.1 closed.ancestor;
      tracked = fold_tracked t.ancestor folds.0 (plan_of mode t).agreed folds.1 lines_set tracked;
      sets = lines_set;
    }
