-- What the three trees hold at a path once all that a plan says is done.
use Rattle.std.proofs.Common.{◌≡◌, Bool, true, false, cond, not, ◌||◌, List, [], ◌++◌, refl, sym, ap, subst, ◌∙◌, inl, inr, Option, Some, None}
use Rattle.std.specs.Prelude.{◌⊎◌}
use Rattle.std.specs.FinMap as trees
use Rattle.std.specs.List.{filter, AllByRecursion}
use Rattle.std.specs.Option.{is_some, option_map}
use Rattle.std.specs.Ordering.{is_eq, eq_by_cmp}
use Rattle.std.proofs.lemmas.Bool.{and_parts, and_from}
use Rattle.std.proofs.lemmas.Cmp.{tied_itself}
use Rattle.finite_maps.proofs.Constructors.{none_is_not_some, some_same}
use Rattle.sync_path.specs.Path.{path_cmp, is_under, is_below}
use Rattle.sync_path.specs.PathOrder.{path_cmp_total}
use Rattle.entry_tree.specs.Atom.{is_dir}
use Rattle.entry_tree.specs.Tree.{Names, ByPath}
use Rattle.entry_tree.specs.declared.atom.Atom.{Atom}
use Rattle.entry_tree.specs.declared.atom.Atom.TheVariants.{Dir}
use Rattle.entry_tree.specs.declared.side.Side.{Side}
use Rattle.entry_tree.specs.declared.side.Side.TheVariants.{Alpha, Beta}
use Rattle.entry_tree.proofs.Paths.{under_itself}
use Rattle.mode_rules.specs.declared.ancestor_line.AncestorLine.{AncestorLine}
use Rattle.mode_rules.specs.declared.ancestor_line.AncestorLine.TheVariants as lines
use Rattle.mode_rules.specs.declared.change.Change.{Change}
use Rattle.mode_rules.specs.declared.comparing.Comparison.{Comparison}
use Rattle.mode_rules.specs.declared.mode.Mode.{Mode}
use Rattle.mode_rules.specs.declared.mode.Mode.TheVariants.{TwoWaySafe, TwoWayResolved, OneWaySafe, OneWayReplica}
use Rattle.mode_rules.specs.declared.verdict.Verdict.{Verdict}
use Rattle.mode_rules.specs.declared.verdict.Verdict.TheVariants as verdicts
use Rattle.mode_rules.specs.AncestorFold.{with_lines}
use Rattle.mode_rules.specs.ChangeLaws.{AreClosed}
use Rattle.mode_rules.specs.Laws.{HoldsOnlyTracked, after, is_of}
use Rattle.mode_rules.specs.Plans.{change_at, change_by, conflict_at, conflict_by, line_at, line_of, plan_of}
use Rattle.mode_rules.specs.PointLaws.{meets}
use Rattle.mode_rules.specs.Trees.{Trees, paths_of, is_point, is_blocked, holds_folder, same_there}
use Rattle.mode_rules.specs.Verdicts.{by_mode, comparison, verdict}
use Rattle.mode_rules.proofs.After.{any_kept}
use Rattle.mode_rules.proofs.Agreeing.{lines_give, folds}
use Rattle.mode_rules.proofs.Below.{under_both, under_through, folder_above, folders, Decider, decider}
use Rattle.mode_rules.proofs.Cases.{by_case, agreed_is, folder_there, same_is}
use Rattle.mode_rules.proofs.Changing.{nothing_under}
use Rattle.mode_rules.proofs.Deciding.{IsAmong, each_among, has_ancestors, some_among, folder_agrees, clear_above, decider_is_point}
use Rattle.mode_rules.proofs.Folding.{touches_line, given, GivesLine, with_lines-append, fold_kept, fold_given}
use Rattle.mode_rules.proofs.Meeting.{Met, known, meets_at, both_gone, some_conflict, is_free}
use Rattle.mode_rules.proofs.PlanPaths.{agreed_line, change_stop}
use Rattle.plan_laws.specs.Settling.{lines_of_side, settled_lines}
use Rattle.plan_laws.proofs.Values.{value, get-with_lines, value-append}
use Rattle.plan_laws.proofs.Changes as changes

-- what is known of a decision where nothing untracked stands
abbrev Kind : Mode → Bool → Verdict → Type 0
Kind mode h verdicts.Left = ⊥
Kind mode h verdicts.Blocked = ⊥
Kind mode h verdicts.BetaKeeps = (mode ≡ OneWaySafe) × (h ≡ false)
Kind mode h verdicts.Gone = Unit {0}
Kind mode h verdicts.Agreed = Unit {0}
Kind mode h verdicts.AlphaTakes = Unit {0}
Kind mode h verdicts.BetaTakes = Unit {0}
Kind mode h verdicts.AlphaEmptied = Unit {0}
Kind mode h verdicts.BetaEmptied = Unit {0}
Kind mode h verdicts.Both = Unit {0}

kind_by : (mode : Mode) (a al b bl h : Bool) → Kind mode h (by_mode mode h (record { same = a; less = al }) (record { same = b; less = bl }))
kind_by TwoWaySafe true al b bl h = tt
kind_by TwoWaySafe false al true bl h = tt
kind_by TwoWaySafe false true false true true = tt
kind_by TwoWaySafe false true false true false = tt
kind_by TwoWaySafe false true false false h = tt
kind_by TwoWaySafe false false false true h = tt
kind_by TwoWaySafe false false false false h = tt
kind_by TwoWayResolved true al b bl h = tt
kind_by TwoWayResolved false al b bl h = tt
kind_by OneWaySafe a al b true h = tt
kind_by OneWaySafe a al b false true = tt
kind_by OneWaySafe a al b false false = (refl, refl)
kind_by OneWayReplica a al b bl h = tt

-- What both sides and the ancestor hold at a path then: the sides hold the same, and if that is something, so does the ancestor; or, in one-way-safe, beta keeps its
-- own, and neither alpha nor the ancestor holds anything.
pub data Ends (mode : Mode) (alpha beta ancestor : Option Atom) : Type 0 where
  met : alpha ≡ beta → ((x : Atom) → alpha ≡ Some x → ancestor ≡ Some x) → Ends mode alpha beta ancestor
  kept : mode ≡ OneWaySafe → alpha ≡ None → ancestor ≡ None → Ends mode alpha beta ancestor

-- .. and both sides hold nothing but what is tracked
pub record Settled (mode : Mode) (alpha beta ancestor : Option Atom) : Type 0 where
  pub ends : Ends mode alpha beta ancestor
  pub alpha_free : is_blocked alpha ≡ false
  pub beta_free : is_blocked beta ≡ false

module _ (mode : Mode) (t : Trees) (closed : AreClosed t) (ancestor_tracked : HoldsOnlyTracked t.ancestor) (alpha_tracked : HoldsOnlyTracked t.alpha) (beta_tracked : HoldsOnlyTracked t.beta)
    (peaceful : (plan_of mode t).conflicts ≡ []) where
  -- the ancestor with the agreed lines
  abbrev agreed_tree : ByPath Atom
  agreed_tree = (folds mode t closed).0

  change_is : (p : Names) → change_at mode t p ≡ change_by t p (verdict mode t p)
  unfolding change_at
  change_is p = refl

  conflict_is : (p : Names) → conflict_at mode t p ≡ conflict_by t p (verdict mode t p)
  unfolding conflict_at
  conflict_is p = refl

  line_is : (p : Names) → line_at mode t p ≡ line_of p (trees.get t.ancestor p) (trees.get t.alpha p) (verdict mode t p)
  unfolding line_at
  line_is p = refl

  kind : (p : Names) → Kind mode (is_some (trees.get t.alpha p)) (verdict mode t p)
  kind p =
      let a = trees.get t.alpha p in
      let b = trees.get t.beta p in
      let sa : Comparison = comparison t t.alpha p in
      let sb : Comparison = comparison t t.beta p in
      let free : (is_blocked a || is_blocked b) ≡ false = λ i. is_free t.alpha p alpha_tracked i || is_free t.beta p beta_tracked i in
      by_case (Kind mode (is_some a)) mode a b sa sb
      (λ _ stops. let no : true ≡ false = sym stops ∙ free in absurd (cc))
      (λ stops. let no : true ≡ false = sym stops ∙ free in absurd (cc))
      (λ _ _. tt) (λ _. tt)
      (λ _ _ _ _. kind_by mode sa.same sa.less sb.same sb.less (is_some a))

  module _ (q : Names) (d : Decider t q) where
    agreed_kept : (w : Option Atom) → ((l : AncestorLine) → line_at mode t d.at ≡ Some l → GivesLine q w l) → trees.get t.ancestor q ≡ w → trees.get agreed_tree q ≡ w
    agreed_kept w here held =
        fold_kept q w t.ancestor agreed_tree (plan_of mode t).agreed (folds mode t closed).1 (lines_give mode t closed q d w here (paths_of t) (each_among t)) held

    agreed_given : (w : Option Atom) → ((l : AncestorLine) → line_at mode t d.at ≡ Some l → GivesLine q w l) → IsAmong t d.at → (l : AncestorLine) → line_at mode t d.at ≡ Some l → touches_line q l ≡ true
        → trees.get agreed_tree q ≡ w
    agreed_given w here has l is touched =
        fold_given q w t.ancestor agreed_tree (plan_of mode t).agreed (folds mode t closed).1 (lines_give mode t closed q d w here (paths_of t) (each_among t))
        (any_kept (touches_line q) (is_point t) (line_at mode t) d.at l (decider_is_point t q d) is touched (paths_of t) has)

    -- what stands on a side where both sides agree stands at the deciding point itself
    stands_there : (x : Atom) → trees.get t.alpha q ≡ Some x → trees.get t.alpha d.at ≡ trees.get t.beta d.at → q ≡ d.at
    stands_there x is same = by (is_under d.at q) refl d.stop
      where
        by : (b : Bool) → is_under d.at q ≡ b → (d.at ≡ q) ⊎ (folders t d.at ≡ false) → q ≡ d.at
        by true up stop = under_both q d.at d.under up
        by false up (inl here) = sym here
        by false up (inr stops) =
            let folder : holds_folder (trees.get t.alpha d.at) ≡ true = folder_above t.alpha closed.alpha q d.at d.under up (ap is_some is) in
            let no : true ≡ false = sym (and_from _ _ folder (ap holds_folder (sym same) ∙ folder)) ∙ stops in
            absurd (cc)

    -- what both sides agree on the ancestor holds with the agreed lines
    agreed_stands : verdict mode t d.at ≡ verdicts.Agreed → (x : Atom) → trees.get t.alpha q ≡ Some x → trees.get agreed_tree q ≡ Some x
    agreed_stands agreed x is = by (same_there (trees.get t.ancestor d.at) (trees.get t.alpha d.at)) refl
      where
        here : q ≡ d.at
        here = stands_there x is (agreed_is mode (trees.get t.alpha d.at) (trees.get t.beta d.at) (comparison t t.alpha d.at) (comparison t t.beta d.at) agreed).0

        at_point : trees.get t.alpha d.at ≡ Some x
        at_point = ap (trees.get t.alpha) (sym here) ∙ is

        tie : eq_by_cmp path_cmp q d.at ≡ true
        tie = ap (λ p. eq_by_cmp path_cmp p d.at) here ∙ ap is_eq (tied_itself path_cmp_total d.at)

        is_line : line_at mode t d.at ≡ cond (same_there (trees.get t.ancestor d.at) (trees.get t.alpha d.at)) None (option_map (lines.Set d.at) (trees.get t.alpha d.at))
        is_line = line_is d.at ∙ ap (line_of d.at (trees.get t.ancestor d.at) (trees.get t.alpha d.at)) agreed

        gives : (l : AncestorLine) → line_at mode t d.at ≡ Some l → GivesLine q (Some x) l
        gives l there touched =
            let set = agreed_line d.at (trees.get t.ancestor d.at) (trees.get t.alpha d.at) l (sym is_line ∙ there) in
            ap (given q) set.2 ∙ ap (λ b. cond b (Some set.0) None) tie ∙ sym set.1 ∙ at_point

        by : (b : Bool) → same_there (trees.get t.ancestor d.at) (trees.get t.alpha d.at) ≡ b → trees.get agreed_tree q ≡ Some x
        by true e = agreed_kept (Some x) gives (ap (trees.get t.ancestor) here ∙ same_is (trees.get t.ancestor d.at) (trees.get t.alpha d.at) e ∙ at_point)
        by false e =
            let there : line_at mode t d.at ≡ Some (lines.Set d.at x) =
            is_line ∙ ap (λ b. cond b None (option_map (lines.Set d.at) (trees.get t.alpha d.at))) e ∙ ap (option_map (lines.Set d.at)) at_point in
            agreed_given (Some x) gives (some_among t d.at (ap (λ (o : Option Atom). is_some o || is_some (trees.get t.beta d.at)) at_point)) (lines.Set d.at x) there
            (ap (λ b. b || not (is_dir x || not (is_below q d.at))) tie)

    -- where beta keeps its own, the ancestor holds nothing with the agreed lines
    kept_gone : verdict mode t d.at ≡ verdicts.BetaKeeps → trees.get agreed_tree q ≡ None
    kept_gone keeps = by (trees.get t.ancestor d.at) refl
      where
        is_line : line_at mode t d.at ≡ cond (is_some (trees.get t.ancestor d.at)) (Some (lines.Drop d.at)) None
        is_line = line_is d.at ∙ ap (line_of d.at (trees.get t.ancestor d.at) (trees.get t.alpha d.at)) keeps

        drops : (b : Bool) (l : AncestorLine) → cond b (Some (lines.Drop d.at)) None ≡ Some l → GivesLine q None l
        drops true l e = subst (GivesLine q None) (some_same _ l e) (λ _. refl)
        drops false l e = absurd (none_is_not_some l e)

        gives : (l : AncestorLine) → line_at mode t d.at ≡ Some l → GivesLine q None l
        gives l there = drops (is_some (trees.get t.ancestor d.at)) l (sym is_line ∙ there)

        by : (o : Option Atom) → trees.get t.ancestor d.at ≡ o → trees.get agreed_tree q ≡ None
        by None is = agreed_kept None gives (nothing_under t.ancestor closed.ancestor d.at q is d.under)
        by (Some x) is =
            agreed_given None gives (has_ancestors t d.at (ap is_some is)) (lines.Drop d.at)
            (is_line ∙ ap (λ (o : Option Atom). cond (is_some o) (Some (lines.Drop d.at)) None) is) d.under

  -- above each change the ancestor has folders, with the agreed lines
  folders_stand : (c : Change) → changes.Made mode t closed alpha_tracked beta_tracked c → (r : Names) → is_under c.at r ≡ true → is_under r c.at ≡ false → trees.get agreed_tree r ≡ Some Dir
  folders_stand c made r up down =
      agreed_stands r d (folder_agrees t mode r folder) Dir (folder_there (trees.get t.alpha r) (and_parts (holds_folder (trees.get t.alpha r)) (holds_folder (trees.get t.beta r)) folder).0)
    where
      folder : folders t r ≡ true
      folder = clear_above t closed c.at made.point made.among r up down

      d : Decider t r
      d = record { at = r; under = under_itself r; clear = above; stop = inl refl }
        where
          above : (x : Names) → is_under r x ≡ true → is_under x r ≡ false → folders t x ≡ true
          above x up_x down_x = clear_above t closed c.at made.point made.among x (under_through c.at r x up up_x) (by (is_under x c.at) refl)
            where
              by : (b : Bool) → is_under x c.at ≡ b → b ≡ false
              by true e = let no : true ≡ false = sym (under_through x c.at r e up) ∙ down_x in absurd (cc)
              by false e = refl

  abbrev cs : List Change
  cs = (plan_of mode t).changes

  abbrev Made : Change → Type 0
  Made c = changes.Made mode t closed alpha_tracked beta_tracked c

  made_all : AllByRecursion Made cs
  made_all = changes.all_made mode t closed alpha_tracked beta_tracked

  of_side : (s : Side) → AllByRecursion Made (filter (λ (c : Change). is_of s c.side) cs)
  of_side s = changes.filtered Made (λ (c : Change). is_of s c.side) cs made_all

  alphas_taken : (m : ByPath Atom) × (with_lines agreed_tree (lines_of_side Alpha cs) ≡ Some m) × changes.FoldersAbove mode t closed alpha_tracked beta_tracked m
  alphas_taken = changes.changes_taken mode t closed alpha_tracked beta_tracked (filter (λ (c : Change). is_of Alpha c.side) cs) (of_side Alpha) agreed_tree (changes.folders_above mode t closed alpha_tracked beta_tracked agreed_tree folders_stand)

  betas_taken : (m : ByPath Atom) × (with_lines alphas_taken.0 (lines_of_side Beta cs) ≡ Some m) × changes.FoldersAbove mode t closed alpha_tracked beta_tracked m
  betas_taken = changes.changes_taken mode t closed alpha_tracked beta_tracked (filter (λ (c : Change). is_of Beta c.side) cs) (of_side Beta) alphas_taken.0 alphas_taken.2

  -- the ancestor once all lines are taken up
  pub tree : ByPath Atom
  tree = betas_taken.0

  sides_folds : with_lines agreed_tree (lines_of_side Alpha cs ++ lines_of_side Beta cs) ≡ Some tree
  unfolding tree
  sides_folds = with_lines-append agreed_tree alphas_taken.0 (lines_of_side Alpha cs) (lines_of_side Beta cs) alphas_taken.1 ∙ betas_taken.1

  pub tree_folds : with_lines t.ancestor (settled_lines (plan_of mode t)) ≡ Some tree
  tree_folds =
      with_lines-append t.ancestor agreed_tree (plan_of mode t).agreed (lines_of_side Alpha cs ++ lines_of_side Beta cs) (folds mode t closed).1 ∙ sides_folds

  tree_value : (q : Names) → trees.get tree q ≡ value q (trees.get agreed_tree q) (lines_of_side Alpha cs ++ lines_of_side Beta cs)
  tree_value q = get-with_lines q agreed_tree tree (lines_of_side Alpha cs ++ lines_of_side Beta cs) sides_folds

  abbrev alpha_after : Names → Option Atom
  alpha_after q = trees.get (after Alpha t.alpha cs) q

  abbrev beta_after : Names → Option Atom
  beta_after q = trees.get (after Beta t.beta cs) q

  module _ (q : Names) (d : Decider t q) where
    meet : meets (verdict mode t d.at) ≡ true → alpha_after q ≡ beta_after q
    meet m = meets_at mode t closed.alpha closed.beta q d (verdict mode t d.at) refl m (known mode t d.at)

    -- where the deciding point makes no change
    module _ (none : change_at mode t d.at ≡ None) where
      alpha_is : alpha_after q ≡ trees.get t.alpha q
      alpha_is = changes.side_stays mode t closed alpha_tracked beta_tracked q d none Alpha t.alpha

      beta_is : beta_after q ≡ trees.get t.beta q
      beta_is = changes.side_stays mode t closed alpha_tracked beta_tracked q d none Beta t.beta

      tree_is : trees.get tree q ≡ trees.get agreed_tree q
      tree_is =
          tree_value q
          ∙ value-append q (trees.get agreed_tree q) (lines_of_side Alpha cs) (lines_of_side Beta cs)
          ∙ changes.lines_pass mode t closed alpha_tracked beta_tracked q d none (filter (λ (c : Change). is_of Beta c.side) cs) (of_side Beta) (value q (trees.get agreed_tree q) (lines_of_side Alpha cs))
          ∙ changes.lines_pass mode t closed alpha_tracked beta_tracked q d none (filter (λ (c : Change). is_of Alpha c.side) cs) (of_side Alpha) (trees.get agreed_tree q)

      unchanged : Ends mode (alpha_after q) (beta_after q) (trees.get tree q) → Settled mode (alpha_after q) (beta_after q) (trees.get tree q)
      unchanged ends = record {
        ends = ends;
        alpha_free = ap is_blocked alpha_is ∙ is_free t.alpha q alpha_tracked;
        beta_free = ap is_blocked beta_is ∙ is_free t.beta q beta_tracked;
      }

      still : (v : Verdict) → verdict mode t d.at ≡ v → change_by t d.at v ≡ None
          → Met (IsAmong t d.at) (trees.get t.alpha d.at ≡ trees.get t.beta d.at) (is_some (trees.get t.alpha d.at)) (is_some (trees.get t.beta d.at)) v
          → Kind mode (is_some (trees.get t.alpha d.at)) v → (meets v ≡ true → alpha_after q ≡ beta_after q) → Ends mode (alpha_after q) (beta_after q) (trees.get tree q)
      still verdicts.Agreed is nothing found sort same = met (same refl) (λ x there. tree_is ∙ agreed_stands q d is x (sym alpha_is ∙ there))
      still verdicts.Gone is nothing found sort same =
          met (same refl) (λ x there. absurd (none_is_not_some x (sym (both_gone mode t closed.alpha closed.beta q d t.alpha closed.alpha found.0) ∙ sym alpha_is ∙ there)))
      still verdicts.BetaKeeps is nothing found sort same =
          kept sort.0 (alpha_is ∙ both_gone mode t closed.alpha closed.beta q d t.alpha closed.alpha sort.1) (tree_is ∙ kept_gone q d is)
      still verdicts.Both is nothing found sort same = absurd (some_conflict mode t closed.alpha closed.beta q d _ found (conflict_is d.at ∙ ap (conflict_by t d.at) is) peaceful)
      still verdicts.Left is nothing found sort same = absurd sort
      still verdicts.Blocked is nothing found sort same = absurd sort
      still verdicts.AlphaTakes is nothing found sort same = absurd (none_is_not_some _ (sym nothing))
      still verdicts.BetaTakes is nothing found sort same = absurd (none_is_not_some _ (sym nothing))
      still verdicts.AlphaEmptied is nothing found sort same = absurd (none_is_not_some _ (sym nothing))
      still verdicts.BetaEmptied is nothing found sort same = absurd (none_is_not_some _ (sym nothing))

      still_settled : Settled mode (alpha_after q) (beta_after q) (trees.get tree q)
      still_settled = unchanged (still (verdict mode t d.at) refl (sym (change_is d.at) ∙ none) (known mode t d.at) (kind d.at) meet)

    -- where it makes one
    module _ (made : Change) (is : change_at mode t d.at ≡ Some made) where
      changing : (v : Verdict) (c : Change) → change_by t d.at v ≡ Some c
          → Met (IsAmong t d.at) (trees.get t.alpha d.at ≡ trees.get t.beta d.at) (is_some (trees.get t.alpha d.at)) (is_some (trees.get t.beta d.at)) v → (meets v ≡ true) × IsAmong t d.at
      changing verdicts.AlphaTakes c e found = (refl, found)
      changing verdicts.BetaTakes c e found = (refl, found)
      changing verdicts.AlphaEmptied c e found = (refl, found.0)
      changing verdicts.BetaEmptied c e found = (refl, found.0)
      changing verdicts.Left c e found = absurd (none_is_not_some c e)
      changing verdicts.Blocked c e found = absurd (none_is_not_some c e)
      changing verdicts.Gone c e found = absurd (none_is_not_some c e)
      changing verdicts.Agreed c e found = absurd (none_is_not_some c e)
      changing verdicts.BetaKeeps c e found = absurd (none_is_not_some c e)
      changing verdicts.Both c e found = absurd (none_is_not_some c e)

      facts : (meets (verdict mode t d.at) ≡ true) × IsAmong t d.at
      facts = changing (verdict mode t d.at) made (sym (change_is d.at) ∙ is) (known mode t d.at)

      same : alpha_after q ≡ beta_after q
      same = meet facts.0

      alpha_new : (s : Side) → made.side ≡ s → alpha_after q ≡ trees.get made.new q
      alpha_new Alpha e = ap (λ s. trees.get (after s t.alpha cs) q) (sym e) ∙ changes.side_becomes mode t closed alpha_tracked beta_tracked q d made is facts.1 t.alpha
      alpha_new Beta e = same ∙ ap (λ s. trees.get (after s t.beta cs) q) (sym e) ∙ changes.side_becomes mode t closed alpha_tracked beta_tracked q d made is facts.1 t.beta

      puts : alpha_after q ≡ trees.get made.new q
      puts = alpha_new made.side refl

      here : made.at ≡ d.at
      here = (change_stop mode t d.at made is).0

      new_tracked : HoldsOnlyTracked made.new
      new_tracked =
          (changes.rooted mode t closed alpha_tracked beta_tracked made
          (record { among = subst (IsAmong t) (sym here) facts.1; point = ap (is_point t) here ∙ decider_is_point t q d; made = ap (change_at mode t) here ∙ is })).1.tracked

      changed_settled : Settled mode (alpha_after q) (beta_after q) (trees.get tree q)
      changed_settled = record {
        ends = met same (λ x there. tree_value q ∙ changes.sides_give mode t closed alpha_tracked beta_tracked q d made is x (sym puts ∙ there) facts.1 (trees.get agreed_tree q));
        alpha_free = ap is_blocked puts ∙ is_free made.new q new_tracked;
        beta_free = ap is_blocked (sym same ∙ puts) ∙ is_free made.new q new_tracked;
      }

  -- at each path
  pub settled_at : (q : Names) → Settled mode (alpha_after q) (beta_after q) (trees.get tree q)
  settled_at q = by (decider t q)
    where
      by : (d : Decider t q) → Settled mode (alpha_after q) (beta_after q) (trees.get tree q)
      by d = which (change_at mode t d.at) refl
        where
          which : (o : Option Change) → change_at mode t d.at ≡ o → Settled mode (alpha_after q) (beta_after q) (trees.get tree q)
          which None none = still_settled q d none
          which (Some made) is = changed_settled q d made is
