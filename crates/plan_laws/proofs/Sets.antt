-- The lines that make all entries of a subtree, in path order.
use Rattle.std.proofs.Common.{◌≡◌, Bool, true, false, cond, not, ◌||◌, List, [], ◌∷◌, ◌++◌, refl, sym, ap, subst, ◌∙◌, inl, inr, Option, Some, None, append_assoc}
use Rattle.std.specs.Prelude.{◌⊎◌}
use Rattle.std.specs.FinMap as trees
use Rattle.std.specs.FinMap.{find}
use Rattle.std.specs.List.{filter_map, cons_option, list_any, AllByRecursion}
use Rattle.std.specs.List.Sorted.{IsStrictlySortedBy}
use Rattle.std.specs.Map.{keys_of}
use Rattle.std.specs.Option.{is_some}
use Rattle.std.specs.Ordering.{is_eq, eq_by_cmp, ordering_reverse}
use Rattle.std.specs.declared.cmp.Ordering.TheVariants.{Less}
use Rattle.std.proofs.lemmas.Bool.{and_parts, or_cases, or_left, or_right}
use Rattle.std.proofs.lemmas.Cmp.{tied_itself}
use Rattle.std.proofs.lemmas.List.{append-nil}
use Rattle.std.proofs.lemmas.Map.Keys.{sorted_head, sorted_tail}
use Rattle.finite_maps.proofs.Constructors.{none_is_not_some, some_same}
use Rattle.finite_maps.proofs.SortedLists.{sorted-from_is_sorted}
use Rattle.sync_path.specs.Path.{path_cmp, is_under, is_below}
use Rattle.sync_path.specs.PathOrder.{path_cmp_total}
use Rattle.entry_tree.specs.Atom.{is_dir, is_tracked}
use Rattle.entry_tree.specs.Tree.{Names, ByPath}
use Rattle.entry_tree.specs.declared.atom.Atom.{Atom}
use Rattle.entry_tree.specs.declared.atom.Atom.TheVariants.{Dir}
use Rattle.entry_tree.proofs.Trees.{tie_is}
use Rattle.mode_rules.specs.declared.ancestor_line.AncestorLine.{AncestorLine}
use Rattle.mode_rules.specs.declared.ancestor_line.AncestorLine.TheVariants as lines
use Rattle.mode_rules.specs.AncestorFold.{with_line, with_lines}
use Rattle.mode_rules.specs.Laws.{HoldsOnlyTracked}
use Rattle.mode_rules.specs.Trees.{holds_folder}
use Rattle.mode_rules.proofs.Agreeing.{untouched, less_before, among_front, all_front, answers-append, let_set}
use Rattle.mode_rules.proofs.Below.{below_is_under, under_through, one_is_under}
use Rattle.mode_rules.proofs.Cases.{folder_there}
use Rattle.mode_rules.proofs.Folding.{touches_line, GivesLine, with_lines-append}
use Rattle.plan_laws.specs.Settling.{set_line}
use Rattle.plan_laws.proofs.Values.{value, Takes, Passes, get-with_lines, value-passed, value-given}

-- what holds of each answer holds of them all
pub maps_all : {X Y : Type 0} (P : X → Type 0) (Q : Y → Type 0) (f : X → Option Y) → ((x : X) → P x → (y : Y) → f x ≡ Some y → Q y) → (xs : List X) → AllByRecursion P xs
    → AllByRecursion Q (filter_map f xs)
maps_all P Q f each [] all = tt
maps_all P Q f each (x ∷ xs) all = by (f x) refl (maps_all P Q f each xs all.1)
  where
    by : (o : Option _) → f x ≡ o → AllByRecursion Q (filter_map f xs) → AllByRecursion Q (cons_option o (filter_map f xs))
    by None e rest = rest
    by (Some y) e rest = (each x all.0 y e, rest)

later_found : (e : Names × Atom) (es fs : List (Names × Atom)) → AllByRecursion (λ k. path_cmp e.0 k ≡ Less) (keys_of fs) → AllByRecursion (λ x. find path_cmp x.0 es ≡ Some x.1) fs
    → AllByRecursion (λ x. find path_cmp x.0 (e ∷ es) ≡ Some x.1) fs
later_found e es [] less all = tt
later_found e es (x ∷ fs) less all =
    let apart : eq_by_cmp path_cmp x.0 e.0 ≡ false = ap is_eq (path_cmp_total.antisymm x.0 e.0 ∙ ap ordering_reverse less.0) in
    (ap (λ b. cond b (Some e.1) (find path_cmp x.0 es)) apart ∙ all.0, later_found e es fs less.1 all.1)

each_found : (es : List (Names × Atom)) → IsStrictlySortedBy path_cmp (keys_of es) → AllByRecursion (λ x. find path_cmp x.0 es ≡ Some x.1) es
each_found [] sorted = tt
each_found (e ∷ es) sorted = (
  ap (λ b. cond b (Some e.1) (find path_cmp e.0 es)) (ap is_eq (tied_itself path_cmp_total e.0)),
  later_found e es es (sorted_head path_cmp e.0 (keys_of es) sorted) (each_found es (sorted_tail path_cmp e.0 (keys_of es) sorted)),
)

weaker : {X : Type 0} (P Q : X → Type 0) → ((x : X) → P x → Q x) → (xs : List X) → AllByRecursion P xs → AllByRecursion Q xs
weaker P Q each [] all = tt
weaker P Q each (x ∷ xs) all = (each x all.0, weaker P Q each xs all.1)

-- each entry of a tree stands in it
pub entries_stand : (tree : ByPath Atom) → AllByRecursion (λ x. trees.get tree x.0 ≡ Some x.1) (trees.entries tree)
entries_stand tree =
    weaker _ _ (λ x found. trees.get-entries tree x.0 ∙ found) (trees.entries tree)
    (each_found (trees.entries tree) (sorted-from_is_sorted path_cmp (trees.entries tree) (trees.entries_sorted tree)))

-- and what stands in it is one of them
among_found : (q : Names) (es : List (Names × Atom)) (x : Atom) → find path_cmp q es ≡ Some x → list_any (eq_by_cmp path_cmp q) (keys_of es) ≡ true
among_found q [] x e = absurd (none_is_not_some x e)
among_found q (y ∷ es) x e = by (eq_by_cmp path_cmp q y.0) refl (λ f. among_found q es x f)
  where
    by : (b : Bool) → eq_by_cmp path_cmp q y.0 ≡ b → (find path_cmp q es ≡ Some x → list_any (eq_by_cmp path_cmp q) (keys_of es) ≡ true)
        → (eq_by_cmp path_cmp q y.0 || list_any (eq_by_cmp path_cmp q) (keys_of es)) ≡ true
    by true t more = or_left _ _ t
    by false t more = or_right (eq_by_cmp path_cmp q y.0) _ (more (sym (ap (λ b. cond b (Some y.1) (find path_cmp q es)) t) ∙ e))

pub among_entries : (tree : ByPath Atom) (q : Names) (x : Atom) → trees.get tree q ≡ Some x → list_any (eq_by_cmp path_cmp q) (keys_of (trees.entries tree)) ≡ true
among_entries tree q x is = among_found q (trees.entries tree) x (sym (trees.get-entries tree q) ∙ is)

keys_of-append : (es fs : List (Names × Atom)) → keys_of (es ++ fs) ≡ keys_of es ++ keys_of fs
keys_of-append [] fs = refl
keys_of-append (e ∷ es) fs = ap (λ ks. e.0 ∷ ks) (keys_of-append es fs)

-- A tree that holds only what is tracked, at and below a path, and above each thing there folders up to the path.
pub record Rooted (tree : ByPath Atom) (at : Names) : Type 0 where
  pub within : (q : Names) (x : Atom) → trees.get tree q ≡ Some x → is_under q at ≡ true
  pub folders : (q p : Names) → is_some (trees.get tree q) ≡ true → is_under q p ≡ true → is_under p q ≡ false → is_under p at ≡ true → holds_folder (trees.get tree p) ≡ true
  pub tracked : HoldsOnlyTracked tree

-- the line of an entry
pub line_of_entry : (e : Names × Atom) (l : AncestorLine) → set_line e ≡ Some l → l ≡ lines.Set e.0 e.1
line_of_entry e l is = by (is_tracked e.1) is
  where
    by : (b : Bool) → cond b (Some (lines.Set e.0 e.1)) None ≡ Some l → l ≡ lines.Set e.0 e.1
    by true is = sym (some_same _ l is)
    by false is = absurd (none_is_not_some l is)

module _ (tree : ByPath Atom) (at : Names) (rooted : Rooted tree at) where
  abbrev Stands : Names × Atom → Type 0
  Stands e = trees.get tree e.0 ≡ Some e.1

  pub line_there : (e : Names × Atom) → Stands e → set_line e ≡ Some (lines.Set e.0 e.1)
  line_there e stands = ap (λ b. cond b (Some (lines.Set e.0 e.1)) None) (rooted.tracked e.0 e.1 stands)

  -- where something stands, each of the lines that touches the path gives it
  gives : (q : Names) (x : Atom) → trees.get tree q ≡ Some x → (e : Names × Atom) → Stands e → GivesLine q (Some x) (lines.Set e.0 e.1)
  gives q x is e stands touched = by (eq_by_cmp path_cmp q e.0) refl
    where
      leaf : (b c : Bool) → not (b || not c) ≡ true → (b ≡ false) × (c ≡ true)
      leaf true c h = absurd (cc)
      leaf false true h = (refl, refl)
      leaf false false h = absurd (cc)

      by : (b : Bool) → eq_by_cmp path_cmp q e.0 ≡ b → cond (eq_by_cmp path_cmp q e.0) (Some e.1) None ≡ Some x
      by true t = ap (λ b. cond b (Some e.1) None) t ∙ sym stands ∙ ap (trees.get tree) (sym (tie_is q e.0 t)) ∙ is
      by false t =
          let below = leaf (is_dir e.1) (is_below q e.0) (sym (ap (λ b. b || not (is_dir e.1 || not (is_below q e.0))) t) ∙ touched) in
          let up = and_parts (is_under q e.0) (not (is_under e.0 q)) (sym (below_is_under q e.0) ∙ below.1) in
          let folder = rooted.folders q e.0 (ap is_some is) up.0 (not_turned (is_under e.0 q) up.1) (rooted.within e.0 e.1 stands) in
          let dir : Some e.1 ≡ Some Dir = sym stands ∙ folder_there (trees.get tree e.0) folder in
          let no : false ≡ true = sym below.0 ∙ ap is_dir (some_same _ _ dir) in
          absurd (cc)
        where
          not_turned : (b : Bool) → not b ≡ true → b ≡ false
          not_turned true h = absurd (cc)
          not_turned false h = refl

  abbrev es : List (Names × Atom)
  es = trees.entries tree

  pub all_give : (q : Names) (x : Atom) → trees.get tree q ≡ Some x → AllByRecursion (GivesLine q (Some x)) (filter_map set_line es)
  all_give q x is =
      maps_all Stands (GivesLine q (Some x)) set_line
      (λ e stands l line. subst (GivesLine q (Some x)) (sym (line_of_entry e l line)) (gives q x is e stands)) es (entries_stand tree)

  -- the lines of these entries touch each of their paths
  touched_among : (q : Names) (fs : List (Names × Atom)) → AllByRecursion Stands fs → list_any (eq_by_cmp path_cmp q) (keys_of fs) ≡ true → list_any (touches_line q) (filter_map set_line fs) ≡ true
  touched_among q [] stand has = let no : false ≡ true = has in absurd (cc)
  touched_among q (e ∷ fs) stand has =
      ap (λ (o : Option AncestorLine). list_any (touches_line q) (cons_option o (filter_map set_line fs))) (line_there e stand.0)
      ∙ by (or_cases (eq_by_cmp path_cmp q e.0) (list_any (eq_by_cmp path_cmp q) (keys_of fs)) has) (touched_among q fs stand.1)
    where
      by : (eq_by_cmp path_cmp q e.0 ≡ true) ⊎ (list_any (eq_by_cmp path_cmp q) (keys_of fs) ≡ true)
          → (list_any (eq_by_cmp path_cmp q) (keys_of fs) ≡ true → list_any (touches_line q) (filter_map set_line fs) ≡ true)
          → (touches_line q (lines.Set e.0 e.1) || list_any (touches_line q) (filter_map set_line fs)) ≡ true
      by (inl tie) more = or_left _ _ (or_left (eq_by_cmp path_cmp q e.0) _ tie)
      by (inr rest) more = or_right (touches_line q (lines.Set e.0 e.1)) _ (more rest)

  -- what stands in the tree stands where all its lines were taken up
  pub sets_give : (q : Names) (x : Atom) (w : Option Atom) → trees.get tree q ≡ Some x → value q w (filter_map set_line es) ≡ Some x
  sets_give q x w is = value-given q w (Some x) (filter_map set_line es) (all_give q x is) (touched_among q es (entries_stand tree) (among_entries tree q x is))

  -- the lines touch nothing that isn't at or below the path
  pub sets_pass : (q : Names) → is_under q at ≡ false → AllByRecursion (Passes q) (filter_map set_line es)
  sets_pass q out =
      maps_all Stands (Passes q) set_line
      (λ e stands l line. subst (Passes q) (sym (line_of_entry e l line)) (untouched q (lines.Set e.0 e.1) (apart e stands (is_under q e.0) refl))) es (entries_stand tree)
    where
      apart : (e : Names × Atom) → Stands e → (b : Bool) → is_under q e.0 ≡ b → is_under q e.0 ≡ false
      apart e stands true u = let no : true ≡ false = sym (under_through q e.0 at u (rooted.within e.0 e.1 stands)) ∙ out in absurd (cc)
      apart e stands false u = u

  module _ (start : ByPath Atom) (above : (r : Names) → is_under at r ≡ true → is_under r at ≡ false → trees.get start r ≡ Some Dir) where
    sorted : IsStrictlySortedBy path_cmp (keys_of es)
    sorted = sorted-from_is_sorted path_cmp es (trees.entries_sorted tree)

    -- above the next entry there are folders, once those before it are set
    folders_above : (front back : List (Names × Atom)) (e : Names × Atom) → front ++ e ∷ back ≡ es → (m : ByPath Atom) → with_lines start (filter_map set_line front) ≡ Some m
        → Stands e → AllByRecursion Stands front → (r : Names) → is_under e.0 r ≡ true → is_under r e.0 ≡ false → trees.get m r ≡ Some Dir
    folders_above front back e whole m folds stands stand r up down =
        get-with_lines r start m (filter_map set_line front) folds ∙ by (is_under r at) refl
      where
        lines_split : filter_map set_line es ≡ filter_map set_line front ++ filter_map set_line (e ∷ back)
        lines_split = ap (filter_map set_line) (sym whole) ∙ answers-append set_line front (e ∷ back)

        keys_split : keys_of es ≡ keys_of front ++ e.0 ∷ keys_of back
        keys_split = ap keys_of (sym whole) ∙ keys_of-append front (e ∷ back)

        by : (b : Bool) → is_under r at ≡ b → value r (trees.get start r) (filter_map set_line front) ≡ Some Dir
        by true within =
            let is : trees.get tree r ≡ Some Dir = folder_there (trees.get tree r) (rooted.folders e.0 r (ap is_some stands) up down within) in
            value-given r (trees.get start r) (Some Dir) (filter_map set_line front)
            (all_front (GivesLine r (Some Dir)) (filter_map set_line front) (filter_map set_line (e ∷ back)) (subst (AllByRecursion (GivesLine r (Some Dir))) lines_split (all_give r Dir is)))
            (touched_among r front stand
            (among_front (keys_of front) e.0 r (keys_of back) (subst (IsStrictlySortedBy path_cmp) keys_split sorted) (less_before e.0 r up down)
            (subst (λ ks. list_any (eq_by_cmp path_cmp r) ks ≡ true) keys_split (among_entries tree r Dir is))))
        by false out =
            value-passed r (trees.get start r) (filter_map set_line front)
            (all_front (Passes r) (filter_map set_line front) (filter_map set_line (e ∷ back)) (subst (AllByRecursion (Passes r)) lines_split (sets_pass r out)))
            ∙ above r (one_is_under e.0 r at up (rooted.within e.0 e.1 stands) out) out

    go : (back front : List (Names × Atom)) → front ++ back ≡ es → (m : ByPath Atom) → with_lines start (filter_map set_line front) ≡ Some m → AllByRecursion Stands front → AllByRecursion Stands back
        → Takes start (filter_map set_line es)
    go [] front whole m folds stand rest = (m, ap (λ fs. with_lines start (filter_map set_line fs)) (sym whole ∙ append-nil front) ∙ folds)
    go (e ∷ back) front whole m folds stand rest =
        let next = let_set m e.0 e.1 (folders_above front back e whole m folds rest.0 stand) in
        go back (front ++ e ∷ []) (append_assoc front (e ∷ []) back ∙ whole) next.0
        (ap (with_lines start) (answers-append set_line front (e ∷ [])
        ∙ ap (λ (o : Option AncestorLine). filter_map set_line front ++ cons_option o []) (line_there e rest.0))
        ∙ with_lines-append start m (filter_map set_line front) (lines.Set e.0 e.1 ∷ []) folds
        ∙ one next.0 next.1)
        (both front stand rest.0) rest.1
      where
        one : (n : ByPath Atom) → with_line m (lines.Set e.0 e.1) ≡ Some n → with_lines m (lines.Set e.0 e.1 ∷ []) ≡ Some n
        one n is = ap (λ (o : Option (ByPath Atom)). last o) is
          where
            last : Option (ByPath Atom) → Option (ByPath Atom)
            last None = None
            last (Some x) = Some x

        both : (fs : List (Names × Atom)) → AllByRecursion Stands fs → Stands e → AllByRecursion Stands (fs ++ e ∷ [])
        both [] all s = (s, tt)
        both (f ∷ fs) all s = (all.0, both fs all.1 s)

    -- the lines can be taken up where there are folders above the path
    pub sets_taken : Takes start (filter_map set_line es)
    sets_taken = go es [] refl start refl tt (entries_stand tree)
