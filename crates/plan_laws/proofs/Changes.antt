-- The lines of all changes of a plan, and what both sides hold after these.
use Rattle.std.proofs.Common.{◌≡◌, Bool, true, false, cond, ◌||◌, List, [], ◌∷◌, ◌++◌, refl, sym, ap, subst, ◌∙◌, inl, inr, Option, Some, None}
use Rattle.std.specs.Prelude.{◌&&◌}
use Rattle.std.specs.FinMap as trees
use Rattle.std.specs.List.{filter, flat_map, list_any, AllByRecursion}
use Rattle.std.proofs.lemmas.Bool.{and_parts, false_from_ne_true}
use Rattle.finite_maps.proofs.Constructors.{none_is_not_some, some_same}
use Rattle.sync_path.specs.Path.{is_under}
use Rattle.entry_tree.specs.Subtree.{subtree}
use Rattle.entry_tree.specs.Tree.{Names, ByPath}
use Rattle.entry_tree.specs.declared.atom.Atom.{Atom}
use Rattle.entry_tree.specs.declared.atom.Atom.TheVariants.{Dir}
use Rattle.entry_tree.specs.declared.side.Side.{Side}
use Rattle.entry_tree.specs.declared.side.Side.TheVariants.{Alpha, Beta}
use Rattle.mode_rules.specs.declared.change.Change.{Change}
use Rattle.mode_rules.specs.declared.mode.Mode.{Mode}
use Rattle.mode_rules.specs.declared.verdict.Verdict.{Verdict}
use Rattle.mode_rules.specs.declared.verdict.Verdict.TheVariants as verdicts
use Rattle.mode_rules.specs.AncestorFold.{with_lines}
use Rattle.mode_rules.specs.ChangeLaws.{AreClosed}
use Rattle.mode_rules.specs.Laws.{HoldsOnlyTracked, after, is_of}
use Rattle.mode_rules.specs.Plans.{change_at, change_by, plan_of}
use Rattle.mode_rules.specs.Trees.{Trees, paths_of, is_point}
use Rattle.mode_rules.specs.Verdicts.{verdict}
use Rattle.mode_rules.proofs.After.{touches, Gives, after_kept, after_given, any_kept}
use Rattle.mode_rules.proofs.Below.{under_through, Decider}
use Rattle.mode_rules.proofs.Deciding.{IsAmong, each_among, folder_agrees, clear_above, one_point, decider_is_point}
use Rattle.mode_rules.proofs.Folding.{with_lines-append}
use Rattle.mode_rules.proofs.ListLaws.{kept_in}
use Rattle.mode_rules.proofs.PlanPaths.{change_stop}
use Rattle.plan_laws.specs.Settling.{operation_lines, lines_of_side}
use Rattle.plan_laws.proofs.Values.{value, get-with_lines, value-append, value-passed}
use Rattle.plan_laws.proofs.Sets.{Rooted}
use Rattle.plan_laws.proofs.Operations.{subtree_rooted, empty_rooted, operations_pass, operations_give, operations_taken}

-- what holds of each that passes a test
pub filtered : {X : Type 0} (P : X → Type 0) (test : X → Bool) (xs : List X) → AllByRecursion P xs → AllByRecursion P (filter test xs)
filtered P test [] all = tt
filtered P test (x ∷ xs) all = by (test x) (filtered P test xs all.1)
  where
    by : (b : Bool) → AllByRecursion P (filter test xs) → AllByRecursion P (cond b (x ∷ filter test xs) (filter test xs))
    by true rest = (all.0, rest)
    by false rest = rest

-- one that passes both tests passes the second among those that pass the first
any_filtered : {X : Type 0} (test mark : X → Bool) (xs : List X) → list_any (λ x. test x && mark x) xs ≡ true → list_any mark (filter test xs) ≡ true
any_filtered test mark [] h = h
any_filtered test mark (x ∷ xs) h = by (test x) refl h (any_filtered test mark xs)
  where
    first : (b : Bool) → (b || list_any (λ x. test x && mark x) xs) ≡ true → (list_any (λ x. test x && mark x) xs ≡ true → list_any mark (filter test xs) ≡ true) → (b || list_any mark (filter test xs)) ≡ true
    first true h more = refl
    first false h more = more h

    by : (c : Bool) → test x ≡ c → ((test x && mark x) || list_any (λ x. test x && mark x) xs) ≡ true
        → (list_any (λ x. test x && mark x) xs ≡ true → list_any mark (filter test xs) ≡ true) → list_any mark (cond c (x ∷ filter test xs) (filter test xs)) ≡ true
    by true e h more = first (mark x) (sym (ap (λ b. (b && mark x) || list_any (λ x. test x && mark x) xs) e) ∙ h) more
    by false e h more = more (sym (ap (λ b. (b && mark x) || list_any (λ x. test x && mark x) xs) e) ∙ h)

of_itself : (s : Side) → is_of s s ≡ true
of_itself Alpha = refl
of_itself Beta = refl

module _ (mode : Mode) (t : Trees) (closed : AreClosed t) (alpha_tracked : HoldsOnlyTracked t.alpha) (beta_tracked : HoldsOnlyTracked t.beta) where
  -- a change that the plan makes at a path
  pub record Made (c : Change) : Type 0 where
    pub among : IsAmong t c.at
    pub point : is_point t c.at ≡ true
    pub made : change_at mode t c.at ≡ Some c

  pub all_made : AllByRecursion Made (plan_of mode t).changes
  all_made =
      kept_in (IsAmong t) (is_point t) (change_at mode t) Made
      (λ p has point c is.
      let here : c.at ≡ p = (change_stop mode t p c is).0 in
      record { among = subst (IsAmong t) (sym here) has; point = ap (is_point t) here ∙ point; made = ap (change_at mode t) here ∙ is }) (paths_of t) (each_among t)

  abbrev pub BothRooted : Change → Type 0
  BothRooted c = Rooted c.old c.at × Rooted c.new c.at

  alphas : (p : Names) → Rooted (subtree t.alpha p) p
  alphas p = subtree_rooted t.alpha closed.alpha alpha_tracked p

  betas : (p : Names) → Rooted (subtree t.beta p) p
  betas p = subtree_rooted t.beta closed.beta beta_tracked p

  rooted_by : (p : Names) (v : Verdict) (c : Change) → change_by t p v ≡ Some c → BothRooted c
  rooted_by p verdicts.AlphaTakes c e = subst BothRooted (some_same _ c e) (alphas p, betas p)
  rooted_by p verdicts.BetaTakes c e = subst BothRooted (some_same _ c e) (betas p, alphas p)
  rooted_by p verdicts.AlphaEmptied c e = subst BothRooted (some_same _ c e) (alphas p, empty_rooted p)
  rooted_by p verdicts.BetaEmptied c e = subst BothRooted (some_same _ c e) (betas p, empty_rooted p)
  rooted_by p verdicts.Left c e = absurd (none_is_not_some c e)
  rooted_by p verdicts.Blocked c e = absurd (none_is_not_some c e)
  rooted_by p verdicts.Gone c e = absurd (none_is_not_some c e)
  rooted_by p verdicts.Agreed c e = absurd (none_is_not_some c e)
  rooted_by p verdicts.BetaKeeps c e = absurd (none_is_not_some c e)
  rooted_by p verdicts.Both c e = absurd (none_is_not_some c e)

  pub rooted : (c : Change) → Made c → BothRooted c
  unfolding change_at
  rooted c is = rooted_by c.at (verdict mode t c.at) c is.made

  -- no change lies at or above a path above a change's
  none_over : (c other : Change) → Made c → Made other → (r : Names) → is_under c.at r ≡ true → is_under r c.at ≡ false → is_under r other.at ≡ false
  none_over c other is too r up down = false_from_ne_true (is_under r other.at) (λ under.
      let apart : is_under other.at c.at ≡ false = false_from_ne_true (is_under other.at c.at) (λ over. let no : true ≡ false = sym (under_through r other.at c.at under over) ∙ down in cc) in
      let folder = clear_above t closed c.at is.point is.among other.at (under_through c.at r other.at up under) apart in
      (change_stop mode t other.at other too.made).1.differs (folder_agrees t mode other.at folder))

  -- above each change of the plan there are folders
  pub FoldersAbove : ByPath Atom → Type 0
  FoldersAbove tree = (c : Change) → Made c → (r : Names) → is_under c.at r ≡ true → is_under r c.at ≡ false → trees.get tree r ≡ Some Dir

  pub folders_above : (tree : ByPath Atom) → ((c : Change) → Made c → (r : Names) → is_under c.at r ≡ true → is_under r c.at ≡ false → trees.get tree r ≡ Some Dir) → FoldersAbove tree
  unfolding FoldersAbove
  folders_above tree above = above

  -- the lines of some changes of the plan can be taken up where there are folders above each change
  pub changes_taken : (cs : List Change) → AllByRecursion Made cs → (start : ByPath Atom) → FoldersAbove start
      → (m : ByPath Atom) × (with_lines start (flat_map operation_lines cs) ≡ Some m) × FoldersAbove m
  unfolding FoldersAbove
  changes_taken [] all start above = (start, refl, above)
  changes_taken (c ∷ cs) all start above =
      let roots = rooted c all.0 in
      let first = operations_taken c roots.0 roots.1 start (above c all.0) in
      let rest = changes_taken cs all.1 first.0
      (λ other is r up down.
      get-with_lines r start first.0 (operation_lines c) first.1
      ∙ value-passed r (trees.get start r) (operation_lines c) (operations_pass c roots.0 roots.1 r (none_over other c is all.0 r up down))
      ∙ above other is r up down) in
      (rest.0, with_lines-append start first.0 (operation_lines c) (flat_map operation_lines cs) first.1 ∙ rest.1, rest.2)

  module _ (q : Names) (d : Decider t q) where
    -- a change at or above a path is that of the point which decides it
    only : (c : Change) → Made c → is_under q c.at ≡ true → change_at mode t d.at ≡ Some c
    only c is under =
        elim (one_point t closed q d c.at is.point is.among under) [
          | inl same ↦ ap (change_at mode t) (sym same) ∙ is.made
          | inr over ↦ absurd ((change_stop mode t c.at c is.made).1.differs (folder_agrees t mode c.at over.folder))
        ]

    -- where that makes none, no change touches the path
    module _ (none : change_at mode t d.at ≡ None) where
      untouched : (c : Change) → Made c → is_under q c.at ≡ false
      untouched c is = false_from_ne_true (is_under q c.at) (λ under. none_is_not_some c (sym none ∙ only c is under))

      pub lines_pass : (cs : List Change) → AllByRecursion Made cs → (w : Option Atom) → value q w (flat_map operation_lines cs) ≡ w
      lines_pass [] all w = refl
      lines_pass (c ∷ cs) all w =
          let roots = rooted c all.0 in
          value-append q w (operation_lines c) (flat_map operation_lines cs)
          ∙ ap (λ x. value q x (flat_map operation_lines cs)) (value-passed q w (operation_lines c) (operations_pass c roots.0 roots.1 q (untouched c all.0)))
          ∙ lines_pass cs all.1 w

      give_nothing : (side : Side) (w : Option Atom) (cs : List Change) → AllByRecursion Made cs → AllByRecursion (Gives side q w) cs
      give_nothing side w [] all = tt
      give_nothing side w (c ∷ cs) all =
          ((λ there. let no : true ≡ false = sym (and_parts (is_of side c.side) (is_under q c.at) there).1 ∙ untouched c all.0 in absurd (cc)), give_nothing side w cs all.1)

      pub side_stays : (side : Side) (tree : ByPath Atom) → trees.get (after side tree (plan_of mode t).changes) q ≡ trees.get tree q
      side_stays side tree = after_kept side q (trees.get tree q) (plan_of mode t).changes tree (give_nothing side (trees.get tree q) (plan_of mode t).changes all_made) refl

    -- where it makes one, that alone touches the path
    module _ (made : Change) (is : change_at mode t d.at ≡ Some made) where
      same_change : (c : Change) → Made c → is_under q c.at ≡ true → made ≡ c
      same_change c has under = some_same made c (sym is ∙ only c has under)

      here : made.at ≡ d.at
      here = (change_stop mode t d.at made is).0

      give_this : (cs : List Change) → AllByRecursion Made cs → AllByRecursion (Gives made.side q (trees.get made.new q)) cs
      give_this [] all = tt
      give_this (c ∷ cs) all =
          ((λ there. ap (λ (x : Change). trees.get x.new q) (sym (same_change c all.0 (and_parts (is_of made.side c.side) (is_under q c.at) there).1))), give_this cs all.1)

      marked : IsAmong t d.at → list_any (touches made.side q) (plan_of mode t).changes ≡ true
      marked has =
          any_kept (touches made.side q) (is_point t) (change_at mode t) d.at made (decider_is_point t q d) is
          (λ i. of_itself made.side i && (ap (is_under q) here ∙ d.under) i) (paths_of t) has

      pub side_becomes : IsAmong t d.at → (tree : ByPath Atom) → trees.get (after made.side tree (plan_of mode t).changes) q ≡ trees.get made.new q
      side_becomes has tree = after_given made.side q (trees.get made.new q) (plan_of mode t).changes tree (give_this (plan_of mode t).changes all_made) (marked has)

      module _ (x : Atom) (puts : trees.get made.new q ≡ Some x) where
        -- the lines of a change that is at or above the path give what the one change puts there
        one_gives : (c : Change) → Made c → is_under q c.at ≡ true → (w : Option Atom) → value q w (operation_lines c) ≡ Some x
        one_gives c has under w =
            let roots = rooted c has in
            operations_give c roots.0 roots.1 q x w (ap (λ (y : Change). trees.get y.new q) (sym (same_change c has under)) ∙ puts)

        pub lines_keep : (cs : List Change) → AllByRecursion Made cs → value q (Some x) (flat_map operation_lines cs) ≡ Some x
        lines_keep [] all = refl
        lines_keep (c ∷ cs) all =
            value-append q (Some x) (operation_lines c) (flat_map operation_lines cs)
            ∙ ap (λ w. value q w (flat_map operation_lines cs)) (first (is_under q c.at) refl)
            ∙ lines_keep cs all.1
          where
            first : (b : Bool) → is_under q c.at ≡ b → value q (Some x) (operation_lines c) ≡ Some x
            first true e = one_gives c all.0 e (Some x)
            first false e = let roots = rooted c all.0 in value-passed q (Some x) (operation_lines c) (operations_pass c roots.0 roots.1 q e)

        lines_give : (cs : List Change) → AllByRecursion Made cs → (w : Option Atom) → list_any (λ (c : Change). is_under q c.at) cs ≡ true → value q w (flat_map operation_lines cs) ≡ Some x
        lines_give [] all w some = let no : false ≡ true = some in absurd (cc)
        lines_give (c ∷ cs) all w some =
            value-append q w (operation_lines c) (flat_map operation_lines cs)
            ∙ by (is_under q c.at) refl some (lines_give cs all.1) (lines_keep cs all.1)
          where
            by : (b : Bool) → is_under q c.at ≡ b → (is_under q c.at || list_any (λ (c : Change). is_under q c.at) cs) ≡ true
                → ((w : Option Atom) → list_any (λ (c : Change). is_under q c.at) cs ≡ true → value q w (flat_map operation_lines cs) ≡ Some x)
                → value q (Some x) (flat_map operation_lines cs) ≡ Some x
                → value q (value q w (operation_lines c)) (flat_map operation_lines cs) ≡ Some x
            by true e some more keep = ap (λ y. value q y (flat_map operation_lines cs)) (one_gives c all.0 e w) ∙ keep
            by false e some more keep = more (value q w (operation_lines c)) (sym (ap (λ b. b || list_any (λ (c : Change). is_under q c.at) cs) e) ∙ some)

        -- so do all lines of both sides
        pub sides_give : IsAmong t d.at → (w : Option Atom) → value q w (lines_of_side Alpha (plan_of mode t).changes ++ lines_of_side Beta (plan_of mode t).changes) ≡ Some x
        sides_give has w =
            value-append q w (lines_of_side Alpha (plan_of mode t).changes) (lines_of_side Beta (plan_of mode t).changes)
            ∙ by made.side (any_filtered (λ (c : Change). is_of made.side c.side) (λ (c : Change). is_under q c.at) (plan_of mode t).changes (marked has))
          where
            changes_of : (s : Side) → AllByRecursion Made (filter (λ (c : Change). is_of s c.side) (plan_of mode t).changes)
            changes_of s = filtered Made (λ (c : Change). is_of s c.side) (plan_of mode t).changes all_made

            by : (s : Side) → list_any (λ (c : Change). is_under q c.at) (filter (λ (c : Change). is_of s c.side) (plan_of mode t).changes) ≡ true
                → value q (value q w (lines_of_side Alpha (plan_of mode t).changes)) (lines_of_side Beta (plan_of mode t).changes) ≡ Some x
            by Alpha some =
                ap (λ y. value q y (lines_of_side Beta (plan_of mode t).changes)) (lines_give (filter (λ (c : Change). is_of Alpha c.side) (plan_of mode t).changes) (changes_of Alpha) w some)
                ∙ lines_keep (filter (λ (c : Change). is_of Beta c.side) (plan_of mode t).changes) (changes_of Beta)
            by Beta some = lines_give (filter (λ (c : Change). is_of Beta c.side) (plan_of mode t).changes) (changes_of Beta) (value q w (lines_of_side Alpha (plan_of mode t).changes)) some
