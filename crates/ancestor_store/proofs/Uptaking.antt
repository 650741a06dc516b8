-- The lines by which a tree takes up others in place.
use Rattle.std.proofs.Common.{◌≡◌, Bool, true, false, cond, not, ◌||◌, List, [], ◌∷◌, ◌++◌, refl, sym, ap, subst, ◌∙◌, inl, inr, Option, Some, None}
use Rattle.std.specs.Prelude.{◌⊎◌, ◌&&◌}
use Rattle.std.specs.FinMap as map
use Rattle.std.specs.List.{filter_map, flat_map, cons_option, AllByRecursion}
use Rattle.std.specs.Option.{is_some}
use Rattle.std.specs.Ordering.{is_eq, eq_by_cmp}
use Rattle.std.proofs.lemmas.Bool.{and_parts, or_cases, or_left, or_right, not-true}
use Rattle.std.proofs.lemmas.Cmp.{tied_itself}
use Rattle.std.proofs.lemmas.List.Folds.{list_any-append}
use Rattle.finite_maps.proofs.Constructors.{none_is_not_some, some_same}
use Rattle.sync_path.specs.Path.{path_cmp, is_under, is_below}
use Rattle.sync_path.specs.PathOrder.{path_cmp_total}
use Rattle.entry_tree.specs.Atom.{is_dir}
use Rattle.entry_tree.specs.Tree.{Names, ByPath, IsClosed, entries_below}
use Rattle.entry_tree.specs.declared.atom.Atom.{Atom}
use Rattle.entry_tree.specs.declared.atom.Atom.TheVariants.{Dir}
use Rattle.entry_tree.proofs.Paths.{under_itself}
use Rattle.mode_rules.specs.AncestorFold.{with_lines}
use Rattle.mode_rules.specs.PointLaws.{line_path}
use Rattle.mode_rules.specs.declared.ancestor_line.AncestorLine.{AncestorLine}
use Rattle.mode_rules.specs.declared.ancestor_line.AncestorLine.TheVariants.{Set, Drop}
use Rattle.mode_rules.proofs.Agreeing.{untouched}
use Rattle.mode_rules.proofs.Below.{below_is_under, folder_above, under_both}
use Rattle.mode_rules.proofs.Cases.{folder_there}
use Rattle.mode_rules.proofs.Folding.{touches_line}
use Rattle.ancestor_store.specs.Settling.{Adds, Agrees, IsOutcome, IsUptake, touched}
use Rattle.ancestor_store.specs.Uptakes.{add_by, add_line, back_by, back_line, clear_by, clear_lines, gone_by, gone_line, put_by, put_line}
use Rattle.ancestor_store.specs.declared.uptake.Uptake.{Uptake}
use Rattle.ancestor_store.proofs.Outcomes.{decided, passed, within}
use Rattle.ancestor_store.proofs.Settled.{set_touches}
use Rattle.ancestor_store.proofs.TreeEntries.{StandsIn, MakesAt, maps_all, weaker, entries_stand, among_entries, among_filter, filter_passes, touched_in}

tied : (p : Names) → eq_by_cmp path_cmp p p ≡ true
tied p = ap is_eq (tied_itself path_cmp_total p)

-- a line decides its own path
set_itself : (p : Names) (x : Atom) → touches_line p (Set p x) ≡ true
set_itself p x = or_left (eq_by_cmp path_cmp p p) _ (tied p)

itself : (l : AncestorLine) → touches_line (line_path l) l ≡ true
itself (Set p x) = set_itself p x
itself (Drop p) = under_itself p

-- and else only what lies below it
touched_under : (q : Names) (l : AncestorLine) → touches_line q l ≡ true → is_under q (line_path l) ≡ true
touched_under q l t = by (is_under q (line_path l)) refl
  where
    by : (b : Bool) → is_under q (line_path l) ≡ b → b ≡ true
    by true e = refl
    by false e = let no : true ≡ false = sym t ∙ untouched q l e in absurd (cc)

all-append : {X : Type 0} (P : X → Type 0) (xs ys : List X) → AllByRecursion P xs → AllByRecursion P ys → AllByRecursion P (xs ++ ys)
all-append P [] ys all more = more
all-append P (x ∷ xs) ys all more = (all.0, all-append P xs ys all.1 more)

-- what lies under a path and isn't it lies below
below_from : (q p : Names) → is_under q p ≡ true → (q ≡ p → ⊥) → is_below q p ≡ true
below_from q p under apart = below_is_under q p ∙ ap (λ b. b && not (is_under p q)) under ∙ by (is_under p q) refl
  where
    by : (b : Bool) → is_under p q ≡ b → not b ≡ true
    by true e = absurd (apart (under_both q p under e))
    by false e = refl

module _ (from to outcome : ByPath Atom) (ls : List AncestorLine) (was : IsClosed is_dir from) (folds : with_lines from ls ≡ Some to) (is : IsOutcome from ls outcome) where
  abbrev adds : List AncestorLine
  adds = filter_map (add_line from) (map.entries outcome)

  abbrev back : List AncestorLine
  back = filter_map (back_line from) (map.entries outcome)

  abbrev puts : List AncestorLine
  puts = filter_map (put_line from) (map.entries outcome)

  abbrev clears : List AncestorLine
  clears = flat_map (clear_lines from outcome) ls

  -- ---- what each line says

  adds_add : AllByRecursion (Adds from to) adds
  adds_add = maps_all (StandsIn outcome) (Adds from to) (add_line from) each (map.entries outcome) (entries_stand outcome)
    where
      each : (e : Names × Atom) → StandsIn outcome e → (l : AncestorLine) → add_line from e ≡ Some l → Adds from to l
      each e stands l makes = by (map.get from e.0) refl makes
        where
          made : (b : Bool) (old : Atom) → (is_dir e.1 && not (is_dir old)) ≡ b → cond b (Some (Set e.0 e.1)) None ≡ Some l → Adds from to l
          made true old d m = subst (Adds from to) (some_same _ l m) (within from to outcome ls folds is e.0 e.1 stands, inl (and_parts (is_dir e.1) (not (is_dir old)) d).0)
          made false old d m = absurd (none_is_not_some l m)

          by : (o : Option Atom) → map.get from e.0 ≡ o → add_by o e.0 e.1 ≡ Some l → Adds from to l
          by None g m = subst (Adds from to) (some_same _ l m) (within from to outcome ls folds is e.0 e.1 stands, inr g)
          by (Some old) g m = made (is_dir e.1 && not (is_dir old)) old refl m

  back_agrees : AllByRecursion (Agrees from) back
  back_agrees = maps_all (StandsIn outcome) (Agrees from) (back_line from) each (map.entries outcome) (entries_stand outcome)
    where
      each : (e : Names × Atom) → StandsIn outcome e → (l : AncestorLine) → back_line from e ≡ Some l → Agrees from l
      each e stands l makes = by (map.get from e.0) refl makes
        where
          made : (b : Bool) (old : Atom) → map.get from e.0 ≡ Some old → cond b (Some (Set e.0 old)) None ≡ Some l → Agrees from l
          made true old g m = subst (Agrees from) (some_same _ l m) g
          made false old g m = absurd (none_is_not_some l m)

          by : (o : Option Atom) → map.get from e.0 ≡ o → back_by o e.0 e.1 ≡ Some l → Agrees from l
          by None g m = subst (Agrees from) (some_same _ l m) g
          by (Some old) g m = made (is_dir e.1 && not (is_dir old)) old g m

  puts_agree : AllByRecursion (Agrees to) puts
  puts_agree = maps_all (StandsIn outcome) (Agrees to) (put_line from) each (map.entries outcome) (entries_stand outcome)
    where
      each : (e : Names × Atom) → StandsIn outcome e → (l : AncestorLine) → put_line from e ≡ Some l → Agrees to l
      each e stands l makes = by (map.get from e.0) makes
        where
          made : (b : Bool) → cond b None (Some (Set e.0 e.1)) ≡ Some l → Agrees to l
          made true m = absurd (none_is_not_some l m)
          made false m = subst (Agrees to) (some_same _ l m) (within from to outcome ls folds is e.0 e.1 stands)

          by : (o : Option Atom) → put_by o e.0 e.1 ≡ Some l → Agrees to l
          by None m = absurd (none_is_not_some l m)
          by (Some old) m = made (is_dir e.1) m

  -- a line is one of the lines
  abbrev Is : AncestorLine → Type 0
  Is l = (q : Names) → touches_line q l ≡ true → touched q ls ≡ true

  each_is : AllByRecursion Is ls
  each_is = go ls (λ q h. h)
    where
      go : (ms : List AncestorLine) → ((q : Names) → touched q ms ≡ true → touched q ls ≡ true) → AllByRecursion Is ms
      go [] up = tt
      go (m ∷ ms) up = (λ q t. up q (or_left (touches_line q m) (touched q ms) t), go ms (λ q t. up q (or_right (touches_line q m) (touched q ms) t)))

  -- what is gone below a path of which a line takes away what is below
  gone_agrees : (p : Names) → ((q : Names) → is_below q p ≡ true → touched q ls ≡ true) → AllByRecursion (Agrees to) (filter_map (gone_line outcome) (entries_below from p))
  gone_agrees p all =
      maps_all (λ e. is_below e.0 p ≡ true) (Agrees to) (gone_line outcome) each (entries_below from p) (filter_passes (λ e. is_below e.0 p) (map.entries from))
    where
      each : (e : Names × Atom) → is_below e.0 p ≡ true → (l : AncestorLine) → gone_line outcome e ≡ Some l → Agrees to l
      each e below l makes = by (map.get outcome e.0) refl makes
        where
          by : (o : Option Atom) → map.get outcome e.0 ≡ o → gone_by o e.0 ≡ Some l → Agrees to l
          by None g m = subst (Agrees to) (some_same _ l m) (sym (decided from to outcome ls folds is e.0 (all e.0 below)) ∙ g)
          by (Some x) g m = absurd (none_is_not_some l m)

  clear_agrees : (p : Names) (b : Bool) → touched p ls ≡ true → (b ≡ true → (q : Names) → is_below q p ≡ true → touched q ls ≡ true) → AllByRecursion (Agrees to) (clear_by from outcome p b (map.get outcome p))
  clear_agrees p b here all = by (map.get outcome p) refl
    where
      some : (d c : Bool) → c ≡ b → AllByRecursion (Agrees to) (cond (d && c) (filter_map (gone_line outcome) (entries_below from p)) [])
      some true true e = gone_agrees p (all (sym e))
      some true false e = tt
      some false c e = tt

      by : (o : Option Atom) → map.get outcome p ≡ o → AllByRecursion (Agrees to) (clear_by from outcome p b o)
      by None g = (sym (decided from to outcome ls folds is p here) ∙ g, tt)
      by (Some x) g = some (is_dir x) b refl

  set_below : (q p : Names) (x : Atom) → not (is_dir x) ≡ true → is_below q p ≡ true → touches_line q (Set p x) ≡ true
  set_below q p x leaf below = or_right (eq_by_cmp path_cmp q p) _ (ap (λ b. not (b || not (is_below q p))) (not-true (is_dir x) leaf) ∙ ap (λ b. not (not b)) below)

  drop_below : (q p : Names) → is_below q p ≡ true → touches_line q (Drop p) ≡ true
  drop_below q p below = (and_parts (is_under q p) (not (is_under p q)) (sym (below_is_under q p) ∙ below)).0

  clears_agree : AllByRecursion (Agrees to) clears
  clears_agree = go ls each_is
    where
      one : (l : AncestorLine) → Is l → AllByRecursion (Agrees to) (clear_lines from outcome l)
      one (Set p x) among = clear_agrees p (not (is_dir x)) (among p (itself (Set p x))) (λ leaf q below. among q (set_below q p x leaf below))
      one (Drop p) among = clear_agrees p true (among p (itself (Drop p))) (λ _ q below. among q (drop_below q p below))

      go : (ms : List AncestorLine) → AllByRecursion Is ms → AllByRecursion (Agrees to) (flat_map (clear_lines from outcome) ms)
      go [] all = tt
      go (m ∷ ms) all = all-append (Agrees to) (clear_lines from outcome m) (flat_map (clear_lines from outcome) ms) (one m all.0) (go ms all.1)

  -- ---- what the lines reach

  taken_back : (q : Names) (es : List (Names × Atom)) → touched q (filter_map (add_line from) es) ≡ true → touched q (filter_map (back_line from) es) ≡ true
  taken_back q [] t = t
  taken_back q (e ∷ es) t = by (map.get from e.0) t (taken_back q es)
    where
      same : (old : Atom) → is_dir e.1 ≡ true → touches_line q (Set e.0 e.1) ≡ true → touches_line q (Set e.0 old) ≡ true
      same old dir here =
          elim (set_touches q e.0 e.1 here) [
            | inl at ↦ ap (λ r. touches_line r (Set e.0 old)) at ∙ set_itself e.0 old
            | inr below ↦ let no : true ≡ false = sym dir ∙ below.1 in absurd (cc)
          ]

      some : (b : Bool) (old : Atom) → (is_dir e.1 && not (is_dir old)) ≡ b → touched q (cons_option (cond b (Some (Set e.0 e.1)) None) (filter_map (add_line from) es)) ≡ true → (touched q (filter_map (add_line from) es) ≡ true → touched q (filter_map (back_line from) es) ≡ true)
          → touched q (cons_option (cond b (Some (Set e.0 old)) None) (filter_map (back_line from) es)) ≡ true
      some true old d h more =
          elim (or_cases (touches_line q (Set e.0 e.1)) (touched q (filter_map (add_line from) es)) h) [
            | inl here ↦ or_left (touches_line q (Set e.0 old)) (touched q (filter_map (back_line from) es)) (same old (and_parts (is_dir e.1) (not (is_dir old)) d).0 here)
            | inr later ↦ or_right (touches_line q (Set e.0 old)) (touched q (filter_map (back_line from) es)) (more later)
          ]
      some false old d h more = more h

      by : (o : Option Atom) → touched q (cons_option (add_by o e.0 e.1) (filter_map (add_line from) es)) ≡ true → (touched q (filter_map (add_line from) es) ≡ true → touched q (filter_map (back_line from) es) ≡ true) → touched q (cons_option (back_by o e.0 e.1) (filter_map (back_line from) es)) ≡ true
      by None h more =
          elim (or_cases (touches_line q (Set e.0 e.1)) (touched q (filter_map (add_line from) es)) h) [
            | inl here ↦ or_left (touches_line q (Drop e.0)) (touched q (filter_map (back_line from) es)) (touched_under q (Set e.0 e.1) here)
            | inr later ↦ or_right (touches_line q (Drop e.0)) (touched q (filter_map (back_line from) es)) (more later)
          ]
      by (Some old) h more = some (is_dir e.1 && not (is_dir old)) old refl h more

  -- what makes a line at a path that the outcome holds
  made_in : (f : Names × Atom → Option AncestorLine) (q p : Names) (x : Atom) (l : AncestorLine) → map.get outcome p ≡ Some x → f (p, x) ≡ Some l → touches_line q l ≡ true
      → touched q (filter_map f (map.entries outcome)) ≡ true
  made_in f q p x l held makes t =
      touched_in f q p (map.entries outcome) (weaker (StandsIn outcome) (MakesAt f q p) each (map.entries outcome) (entries_stand outcome)) (among_entries outcome p x held)
    where
      each : (e : Names × Atom) → StandsIn outcome e → MakesAt f q p e
      each e stands at =
          let same : e.1 ≡ x = some_same e.1 x (sym stands ∙ ap (map.get outcome) at ∙ held) in
          (l, ap f (λ i. (at i, same i)) ∙ makes, t)

  -- a path that is to hold something and holds nothing is added
  added : (q : Names) (x : Atom) → map.get outcome q ≡ Some x → map.get from q ≡ None → touched q adds ≡ true
  added q x held none = made_in (add_line from) q q x (Set q x) held (ap (λ o. add_by o q x) none) (set_itself q x)

  differs : (q : Names) → is_some (map.get to q) ≡ true → map.get from q ≡ None → touched q ls ≡ true
  differs q h none = by (touched q ls) refl
    where
      by : (b : Bool) → touched q ls ≡ b → b ≡ true
      by true t = refl
      by false t = let no : true ≡ false = sym h ∙ ap is_some (passed from to outcome ls folds is q t ∙ none) in absurd (cc)

  there : (q : Names) → is_some (map.get to q) ≡ true → (is_some (map.get from q) ≡ true) ⊎ (touched q adds ≡ true)
  there q h = by (map.get from q) refl
    where
      held : (o : Option Atom) → map.get to q ≡ o → map.get from q ≡ None → touched q adds ≡ true
      held None e none = let no : true ≡ false = sym h ∙ ap is_some e in absurd (cc)
      held (Some x) e none = added q x (decided from to outcome ls folds is q (differs q h none) ∙ e) none

      by : (o : Option Atom) → map.get from q ≡ o → (is_some o ≡ true) ⊎ (touched q adds ≡ true)
      by None none = inr (held (map.get to q) refl none)
      by (Some y) e = inl refl

  -- a path that holds something and is to hold something else
  replaced : (q : Names) (x y : Atom) → map.get outcome q ≡ Some x → map.get from q ≡ Some y → (map.get from q ≡ Some x) ⊎ ((touched q adds ≡ true) ⊎ (touched q puts ≡ true))
  replaced q x y held old = by (is_dir x) (is_dir y) refl refl
    where
      by : (a b : Bool) → is_dir x ≡ a → is_dir y ≡ b → (map.get from q ≡ Some x) ⊎ ((touched q adds ≡ true) ⊎ (touched q puts ≡ true))
      by true true d e = inl (old ∙ folder_there (Some y) e ∙ sym (folder_there (Some x) d))
      by true false d e =
          inr (inl (made_in (add_line from) q q x (Set q x) held (ap (λ o. add_by o q x) old ∙ ap (λ b. cond (b && not (is_dir y)) (Some (Set q x)) None) d ∙ ap (λ b. cond (not b) (Some (Set q x)) None) e) (set_itself q x)))
      by false b d e = inr (inr (made_in (put_line from) q q x (Set q x) held (ap (λ o. put_by o q x) old ∙ ap (λ b. cond b None (Some (Set q x))) d) (set_itself q x)))

  -- a path that holds something and is to hold nothing: by a line that decides it
  module _ (q : Names) (y : Atom) (old : map.get from q ≡ Some y) (none : map.get to q ≡ None) where
    -- the line's path is to hold something, and so is another
    other : (p : Names) (x : Atom) → map.get outcome p ≡ Some x → q ≡ p → ⊥
    other p x held at = none_is_not_some x (sym none ∙ ap (map.get to) at ∙ within from to outcome ls folds is p x held)

    -- below a folder it is dropped
    dropped : (p : Names) → is_below q p ≡ true → touched q ls ≡ true → touched q (filter_map (gone_line outcome) (entries_below from p)) ≡ true
    dropped p below t =
        touched_in (gone_line outcome) q q (entries_below from p) (weaker (λ _. Unit {0}) (MakesAt (gone_line outcome) q q) each (entries_below from p) (all_unit (entries_below from p)))
        (among_filter (λ r. is_below r p) q (map.entries from) below (among_entries from q y old))
      where
        all_unit : (es : List (Names × Atom)) → AllByRecursion (λ _. Unit {0}) es
        all_unit [] = tt
        all_unit (e ∷ es) = (tt, all_unit es)

        each : (e : Names × Atom) → Unit {0} → MakesAt (gone_line outcome) q q e
        each e _ at =
            (Drop e.0, ap (λ o. gone_by o e.0) (ap (map.get outcome) at ∙ decided from to outcome ls folds is q t ∙ none), ap (λ r. is_under q r) at ∙ under_itself q)

    -- below a leaf that is put it goes
    covered : (p : Names) (x : Atom) → map.get outcome p ≡ Some x → is_dir x ≡ false → is_below q p ≡ true → touched q puts ≡ true
    covered p x held leaf below =
        made_in (put_line from) q p x (Set p x) held (ap (λ o. put_by o p x) folder ∙ ap (λ b. cond b None (Some (Set p x))) leaf) (set_below q p x (ap not leaf) below)
      where
        up : (is_under q p ≡ true) × (not (is_under p q) ≡ true)
        up = and_parts (is_under q p) (not (is_under p q)) (sym (below_is_under q p) ∙ below)

        folder : map.get from p ≡ Some Dir
        folder = folder_there (map.get from p) (folder_above from was q p up.0 (not-true (is_under p q) up.1) (ap is_some old))

    clear_reaches : (p : Names) (b : Bool) → touched q ls ≡ true → is_under q p ≡ true → ((q ≡ p → ⊥) → b ≡ true) → (touched q (clear_by from outcome p b (map.get outcome p)) ≡ true) ⊎ (touched q puts ≡ true)
    clear_reaches p b t under clears = by (map.get outcome p) refl
      where
        below : (x : Atom) → map.get outcome p ≡ Some x → is_below q p ≡ true
        below x g = below_from q p under (other p x g)

        some : (x : Atom) → map.get outcome p ≡ Some x → (d : Bool) → is_dir x ≡ d → (touched q (cond (d && b) (filter_map (gone_line outcome) (entries_below from p)) []) ≡ true) ⊎ (touched q puts ≡ true)
        some x g true d = inl (ap (λ c. touched q (cond c (filter_map (gone_line outcome) (entries_below from p)) [])) (clears (other p x g)) ∙ dropped p (below x g) t)
        some x g false d = inr (covered p x g d (below x g))

        by : (o : Option Atom) → map.get outcome p ≡ o → (touched q (clear_by from outcome p b o) ≡ true) ⊎ (touched q puts ≡ true)
        by None g = inl (or_left (touches_line q (Drop p)) (touched q []) under)
        by (Some x) g = some x g (is_dir x) refl

    line_reaches : (l : AncestorLine) → touched q ls ≡ true → touches_line q l ≡ true → (touched q (clear_lines from outcome l) ≡ true) ⊎ (touched q puts ≡ true)
    line_reaches (Drop p) t here = clear_reaches p true t here (λ _. refl)
    line_reaches (Set p x) t here =
        clear_reaches p (not (is_dir x)) t (touched_under q (Set p x) here)
        (λ apart. elim (set_touches q p x here) [ inl at ↦ absurd (apart at) | inr below ↦ ap not below.1 ])

    lines_reach : (ms : List AncestorLine) → touched q ls ≡ true → touched q ms ≡ true → (touched q (flat_map (clear_lines from outcome) ms) ≡ true) ⊎ (touched q puts ≡ true)
    lines_reach [] t h = let no : false ≡ true = h in absurd (cc)
    lines_reach (m ∷ ms) t h =
        elim (or_cases (touches_line q m) (touched q ms) h) [
          | inl here ↦ elim (line_reaches m t here) [
            | inl c ↦ inl (split ∙ or_left (touched q (clear_lines from outcome m)) (touched q (flat_map (clear_lines from outcome) ms)) c)
            | inr p ↦ inr p
          ]
          | inr later ↦ elim (lines_reach ms t later) [
            | inl c ↦ inl (split ∙ or_right (touched q (clear_lines from outcome m)) (touched q (flat_map (clear_lines from outcome) ms)) c)
            | inr p ↦ inr p
          ]
        ]
      where
        split : touched q (clear_lines from outcome m ++ flat_map (clear_lines from outcome) ms) ≡ (touched q (clear_lines from outcome m) || touched q (flat_map (clear_lines from outcome) ms))
        split = list_any-append (touches_line q) (clear_lines from outcome m) (flat_map (clear_lines from outcome) ms)

  reached : (q : Names) → (map.get from q ≡ map.get to q) ⊎ ((touched q adds ≡ true) ⊎ (touched q (puts ++ clears) ≡ true))
  reached q = by (touched q ls) refl
    where
      split : touched q (puts ++ clears) ≡ (touched q puts || touched q clears)
      split = list_any-append (touches_line q) puts clears

      new : (x : Atom) → map.get to q ≡ Some x → touched q ls ≡ true → (o : Option Atom) → map.get from q ≡ o → (map.get from q ≡ map.get to q) ⊎ ((touched q adds ≡ true) ⊎ (touched q (puts ++ clears) ≡ true))
      new x e t None g = inr (inl (added q x (decided from to outcome ls folds is q t ∙ e) g))
      new x e t (Some y) g =
          elim (replaced q x y (decided from to outcome ls folds is q t ∙ e) g) [
            | inl same ↦ inl (same ∙ sym e)
            | inr (inl a) ↦ inr (inl a)
            | inr (inr p) ↦ inr (inr (split ∙ or_left (touched q puts) (touched q clears) p))
          ]

      gone : map.get to q ≡ None → touched q ls ≡ true → (o : Option Atom) → map.get from q ≡ o → (map.get from q ≡ map.get to q) ⊎ ((touched q adds ≡ true) ⊎ (touched q (puts ++ clears) ≡ true))
      gone e t None g = inl (g ∙ sym e)
      gone e t (Some y) g =
          elim (lines_reach q y g e ls t t) [
            | inl c ↦ inr (inr (split ∙ or_right (touched q puts) (touched q clears) c))
            | inr p ↦ inr (inr (split ∙ or_left (touched q puts) (touched q clears) p))
          ]

      comes : (o : Option Atom) → map.get to q ≡ o → touched q ls ≡ true → (map.get from q ≡ map.get to q) ⊎ ((touched q adds ≡ true) ⊎ (touched q (puts ++ clears) ≡ true))
      comes None e t = gone e t (map.get from q) refl
      comes (Some x) e t = new x e t (map.get from q) refl

      by : (b : Bool) → touched q ls ≡ b → (map.get from q ≡ map.get to q) ⊎ ((touched q adds ≡ true) ⊎ (touched q (puts ++ clears) ≡ true))
      by true t = comes (map.get to q) refl t
      by false t = inl (sym (passed from to outcome ls folds is q t))

  pub is_uptake : (u : Uptake) → u.adds ≡ adds → u.back ≡ back → u.rest ≡ puts ++ clears → IsUptake from to u
  is_uptake u a b r = record {
    adds = subst (AllByRecursion (Adds from to)) (sym a) adds_add;
    back = subst (AllByRecursion (Agrees from)) (sym b) back_agrees;
    rest = subst (AllByRecursion (Agrees to)) (sym r) (all-append (Agrees to) puts clears puts_agree clears_agree);
    taken_back = λ q t. ap (touched q) b ∙ taken_back q (map.entries outcome) (ap (touched q) (sym a) ∙ t);
    there = λ q h. subst (λ ms. (is_some (map.get from q) ≡ true) ⊎ (touched q ms ≡ true)) (sym a) (there q h);
    reached = λ q. subst (λ ms. (map.get from q ≡ map.get to q) ⊎ ((touched q ms ≡ true) ⊎ (touched q u.rest ≡ true))) (sym a)
        (subst (λ ms. (map.get from q ≡ map.get to q) ⊎ ((touched q adds ≡ true) ⊎ (touched q ms ≡ true))) (sym r) (reached q));
  }
