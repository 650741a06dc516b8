-- What both sides hold after the changes.
use Rattle.std.proofs.Common.{◌≡◌, Bool, true, false, not, ◌||◌, List, [], ◌∷◌, refl, sym, ap, subst, ◌∙◌, inl, inr, Option, Some, None, IfSome}
use Rattle.std.specs.Prelude.{◌&&◌, ◌⊎◌, cond}
use Rattle.std.specs.FinMap as trees
use Rattle.std.specs.List.{filter, list_any, AllByRecursion}
use Rattle.std.specs.Option.{is_some}
use Rattle.std.proofs.lemmas.Bool.{and_parts, and_from, or_cases, false_from_ne_true}
use Rattle.finite_maps.proofs.Constructors.{none_is_not_some, some_same}
use Rattle.sync_path.specs.Path.{path_cmp, is_under}
use Rattle.sync_path.specs.PathOrder.{path_cmp_total}
use Rattle.entry_tree.specs.Atom.{is_dir, is_tracked}
use Rattle.entry_tree.specs.Tree.{Names, ByPath, IsClosed}
use Rattle.entry_tree.specs.declared.atom.Atom.{Atom}
use Rattle.entry_tree.specs.declared.side.Side.{Side}
use Rattle.entry_tree.specs.declared.side.Side.TheVariants.{Alpha, Beta}
use Rattle.entry_tree.proofs.Paths.{path_same, under_itself}
use Rattle.mode_rules.specs.declared.change.Change.{Change}
use Rattle.mode_rules.specs.declared.comparing.Comparison.{Comparison}
use Rattle.mode_rules.specs.declared.conflict.Conflict.{Conflict}
use Rattle.mode_rules.specs.declared.mode.Mode.{Mode}
use Rattle.mode_rules.specs.declared.mode.Mode.TheVariants.{TwoWaySafe, TwoWayResolved, OneWaySafe, OneWayReplica}
use Rattle.mode_rules.specs.declared.verdict.Verdict.{Verdict}
use Rattle.mode_rules.specs.declared.verdict.Verdict.TheVariants as verdicts
use Rattle.mode_rules.specs.ChangeLaws.{AreClosed}
use Rattle.mode_rules.specs.Laws.{HoldsOnlyTracked, MakesSidesMeet, is_of, after}
use Rattle.mode_rules.specs.PointLaws.{SidesMeetAt, IsLeft, is_decided_at, meets}
use Rattle.mode_rules.specs.Trees.{Trees, paths_of, is_point, is_blocked, holds_folder}
use Rattle.mode_rules.specs.Verdicts.{by_mode, comparison, first_case, verdict}
use Rattle.mode_rules.specs.Plans.{points_of, change_at, change_by, conflict_at, conflict_by, plan_of}
use Rattle.mode_rules.proofs.After.{get-subtree, touches, Gives, after_kept, after_given, any_kept}
use Rattle.mode_rules.proofs.Agreeing.{lines_give}
use Rattle.mode_rules.proofs.Below.{under_both, one_is_under, folder_above, folders, Decider, decider}
use Rattle.mode_rules.proofs.Cases.{by_case, one_holds, less_is}
use Rattle.mode_rules.proofs.Changing.{nothing_under}
use Rattle.mode_rules.proofs.Deciding.{IsAmong, each_among, some_among, point_lets, folder_agrees, decides, decider_is_point}
use Rattle.mode_rules.proofs.Folding.{fold_kept}
use Rattle.mode_rules.proofs.Held.{has_alphas, has_betas, less_each}
use Rattle.mode_rules.proofs.ListLaws.{kept_in}
use Rattle.mode_rules.proofs.PlanPaths.{Stops, change_stop, conflict_stop, one_kind}

-- What is known of a path at which this is decided: that the path is among those of the trees, and which side holds something.
abbrev pub Met : Type 0 → Type 0 → Bool → Bool → Verdict → Type 0
Met Has Same h k verdicts.AlphaTakes = Has
Met Has Same h k verdicts.BetaTakes = Has
Met Has Same h k verdicts.AlphaEmptied = Has × (k ≡ false)
Met Has Same h k verdicts.BetaEmptied = Has × (h ≡ false)
Met Has Same h k verdicts.Both = Has
Met Has Same h k verdicts.Gone = (h ≡ false) × (k ≡ false)
Met Has Same h k verdicts.Agreed = Same
Met Has Same h k verdicts.Left = Unit {0}
Met Has Same h k verdicts.Blocked = Unit {0}
Met Has Same h k verdicts.BetaKeeps = Unit {0}

abbrev stands : Bool → Bool → Comparison
stands same less = record { same = same; less = less }

met_by : (Has Same : Type 0) (mode : Mode) (a al b bl h k : Bool) → Has → (al ≡ true → bl ≡ true → k ≡ not h) → Met Has Same h k (by_mode mode h (stands a al) (stands b bl))
met_by Has Same TwoWaySafe true al b bl h k has one = has
met_by Has Same TwoWaySafe false al true bl h k has one = has
met_by Has Same TwoWaySafe false true false true true k has one = (has, one refl refl)
met_by Has Same TwoWaySafe false true false true false k has one = (has, refl)
met_by Has Same TwoWaySafe false true false false h k has one = has
met_by Has Same TwoWaySafe false false false true h k has one = has
met_by Has Same TwoWaySafe false false false false h k has one = has
met_by Has Same TwoWayResolved true al b bl h k has one = has
met_by Has Same TwoWayResolved false al b bl h k has one = has
met_by Has Same OneWaySafe a al b true h k has one = has
met_by Has Same OneWaySafe a al b false true k has one = has
met_by Has Same OneWaySafe a al b false false k has one = tt
met_by Has Same OneWayReplica a al b bl h k has one = has

-- what is decided makes both sides the same, or is a conflict of both
abbrev pub MeetsOrBoth : Verdict → Type 0
MeetsOrBoth v = (meets v ≡ true) ⊎ (v ≡ verdicts.Both)

-- the modes in which a path that differs is taken from one side, or is a conflict
abbrev pub Takes : Mode → Type 0
Takes mode = (sa sb : Comparison) (h : Bool) → MeetsOrBoth (by_mode mode h sa sb)

pub safe_takes : Takes TwoWaySafe
safe_takes sa sb h = by sa.same sa.less sb.same sb.less h
  where
    by : (a al b bl h : Bool) → MeetsOrBoth (by_mode TwoWaySafe h (stands a al) (stands b bl))
    by true al b bl h = inl refl
    by false al true bl h = inl refl
    by false true false true true = inl refl
    by false true false true false = inl refl
    by false true false false h = inl refl
    by false false false true h = inl refl
    by false false false false h = inr refl

pub resolved_takes : Takes TwoWayResolved
resolved_takes sa sb h = by sa.same sa.less
  where
    by : (a al : Bool) → MeetsOrBoth (by_mode TwoWayResolved h (stands a al) sb)
    by true al = inl refl
    by false al = inl refl

pub replica_takes : Takes OneWayReplica
replica_takes sa sb h = inl refl

pub none_there : (o : Option Atom) → is_some o ≡ false → o ≡ None
none_there None e = refl
none_there (Some x) e = absurd (cc)

aside : (a b : Bool) → b ≡ false → (a && b) ≡ true → ⊥
aside a b apart there = let no : true ≡ false = sym (and_parts a b there).1 ∙ apart in cc

not_turned : (b : Bool) → not b ≡ true → b ≡ false
not_turned true e = absurd (cc)
not_turned false e = refl

-- of an answer that is given, what is known of it
of_some : {Y : Type 0} (P : Y → Type 0) (o : Option Y) (y : Y) → IfSome o P → o ≡ Some y → P y
of_some P None y h e = absurd (none_is_not_some y e)
of_some P (Some x) y h e = subst P (some_same x y e) h

if_given : {Y : Type 0} (P : Y → Type 0) (o : Option Y) → ((y : Y) → o ≡ Some y → P y) → IfSome o P
if_given P None h = tt
if_given P (Some y) h = h y refl

-- what holds of each path among these that passes a test
points_in : (P : Names → Type 0) (In : Names → Type 0) (test : Names → Bool) → ((p : Names) → In p → test p ≡ true → P p) → (ps : List Names) → AllByRecursion In ps → AllByRecursion P (filter test ps)
points_in P In test each [] ins = tt
points_in P In test each (p ∷ ps) ins = by (test p) refl (points_in P In test each ps ins.1)
  where
    by : (c : Bool) → test p ≡ c → AllByRecursion P (filter test ps) → AllByRecursion P (cond c (p ∷ filter test ps) (filter test ps))
    by true e rest = (each p ins.0 e, rest)
    by false e rest = rest

module _ (mode : Mode) (t : Trees) where
  change_is : (p : Names) → change_at mode t p ≡ change_by t p (verdict mode t p)
  unfolding change_at
  change_is p = refl

  conflict_is : (p : Names) → conflict_at mode t p ≡ conflict_by t p (verdict mode t p)
  unfolding conflict_at
  conflict_is p = refl

  -- what is known at a path, by what is decided there
  pub known : (p : Names) → Met (IsAmong t p) (trees.get t.alpha p ≡ trees.get t.beta p) (is_some (trees.get t.alpha p)) (is_some (trees.get t.beta p)) (verdict mode t p)
  known p =
      let a = trees.get t.alpha p in
      let b = trees.get t.beta p in
      let sa : Comparison = comparison t t.alpha p in
      let sb : Comparison = comparison t t.beta p in
      by_case (Met (IsAmong t p) (a ≡ b) (is_some a) (is_some b)) mode a b sa sb (λ _ _. tt) (λ _. tt)
      (λ none_a none_b. (none_a, none_b))
      (λ same. same)
      (λ free_a free_b some apart.
      let has : IsAmong t p = some_among t p some in
      met_by _ _ mode sa.same sa.less sb.same sb.less (is_some a) (is_some b) has
      (λ less_a less_b. one_holds a b (trees.get t.ancestor p) (record { alpha_free = free_a; beta_free = free_b; some = some; apart = apart })
      (less_is _ _ (less_each t t.alpha p p less_a has (under_itself p)))
      (less_is _ _ (less_each t t.beta p p less_b has (under_itself p)))))

  folder_changes_nothing : (p : Names) → folders t p ≡ true → change_at mode t p ≡ None
  folder_changes_nothing p e = change_is p ∙ ap (change_by t p) (folder_agrees t mode p e)

  gone : (p : Names) → trees.get t.alpha p ≡ None → trees.get t.beta p ≡ None → change_at mode t p ≡ None
  gone p none_a none_b =
      change_is p
      ∙ ap (change_by t p)
      (ap (λ (o : Option Atom). first_case mode o (trees.get t.beta p) (comparison t t.alpha p) (comparison t t.beta p)) none_a
      ∙ ap (λ (o : Option Atom). first_case mode None o (comparison t t.alpha p) (comparison t t.beta p)) none_b)

  module _ (alpha_closed : IsClosed is_dir t.alpha) (beta_closed : IsClosed is_dir t.beta) where
    module _ (q : Names) (d : Decider t q) where
      -- below a path that hides what is there, no side holds anything
      hidden : (side : ByPath Atom) → IsClosed is_dir side → (p : Names) → is_under p d.at ≡ true → is_under d.at p ≡ false → (is_some (trees.get side d.at) ≡ true → ⊥) → trees.get side p ≡ None
      hidden side side_closed p up down none = by (trees.get side p) refl
        where
          folder_some : (o : Option Atom) → holds_folder o ≡ true → is_some o ≡ true
          folder_some None h = absurd (cc)
          folder_some (Some x) h = refl

          by : (o : Option Atom) → trees.get side p ≡ o → o ≡ None
          by None is = refl
          by (Some x) is = absurd (none (folder_some (trees.get side d.at) (folder_above side side_closed p d.at up down (ap is_some is))))

      -- of the points at or above the path only the one that decides it can make a change
      one_changes : (p : Names) → is_point t p ≡ true → is_under q p ≡ true → (p ≡ d.at) ⊎ (change_at mode t p ≡ None)
      one_changes p point under = by (is_under d.at p) (is_under p d.at) refl refl
        where
          beyond : is_under d.at p ≡ false → is_under p d.at ≡ true → (d.at ≡ q) ⊎ (folders t d.at ≡ false) → change_at mode t p ≡ None
          beyond down up (inl here) = let no : true ≡ false = sym under ∙ ap (λ x. is_under x p) (sym here) ∙ down in absurd (cc)
          beyond down up (inr stops) =
              let hides : IsAmong t d.at → ⊥ = λ has. let no : true ≡ false = sym (point_lets t p d.at point has up down) ∙ stops in cc in
              gone p
              (hidden t.alpha alpha_closed p up down (λ some. hides (has_alphas t d.at some)))
              (hidden t.beta beta_closed p up down (λ some. hides (has_betas t d.at some)))

          by : (a b : Bool) → is_under d.at p ≡ a → is_under p d.at ≡ b → (p ≡ d.at) ⊎ (change_at mode t p ≡ None)
          by true true e f = inl (under_both p d.at f e)
          by true false e f = inr (folder_changes_nothing p (d.clear p e f))
          by false b e f = inr (beyond e (one_is_under q d.at p d.under under e) d.stop)

      module _ (side : Side) where
        elsewhere : (w : Option Atom) (p : Names) (v : Verdict) → is_under q p ≡ false → IfSome (change_by t p v) (Gives side q w)
        elsewhere w p verdicts.AlphaTakes apart = λ there. absurd (aside (is_of side Alpha) (is_under q p) apart there)
        elsewhere w p verdicts.BetaTakes apart = λ there. absurd (aside (is_of side Beta) (is_under q p) apart there)
        elsewhere w p verdicts.AlphaEmptied apart = λ there. absurd (aside (is_of side Alpha) (is_under q p) apart there)
        elsewhere w p verdicts.BetaEmptied apart = λ there. absurd (aside (is_of side Beta) (is_under q p) apart there)
        elsewhere w p verdicts.Left apart = tt
        elsewhere w p verdicts.Blocked apart = tt
        elsewhere w p verdicts.Gone apart = tt
        elsewhere w p verdicts.Agreed apart = tt
        elsewhere w p verdicts.BetaKeeps apart = tt
        elsewhere w p verdicts.Both apart = tt

        -- what the deciding point's change gives at the path, all changes there give
        each_gives : (w : Option Atom) → IfSome (change_at mode t d.at) (Gives side q w) → AllByRecursion (Gives side q w) (plan_of mode t).changes
        each_gives w here =
            kept_in (IsAmong t) (is_point t) (change_at mode t) (Gives side q w) (λ p has point c is. at_point p has point c is (is_under q p) refl) (paths_of t) (each_among t)
          where
            at_point : (p : Names) → IsAmong t p → is_point t p ≡ true → (c : Change) → change_at mode t p ≡ Some c → (b : Bool) → is_under q p ≡ b → Gives side q w c
            at_point p has point c is false apart = of_some (Gives side q w) (change_by t p (verdict mode t p)) c (elsewhere w p (verdict mode t p) apart) (sym (change_is p) ∙ is)
            at_point p has point c is true under =
                elim (one_changes p point under) [
                  | inl same ↦ of_some (Gives side q w) (change_at mode t d.at) c here (ap (change_at mode t) (sym same) ∙ is)
                  | inr none ↦ absurd (none_is_not_some c (sym none ∙ is))
                ]

        pub stays : (tree : ByPath Atom) → IfSome (change_at mode t d.at) (Gives side q (trees.get tree q)) → trees.get (after side tree (plan_of mode t).changes) q ≡ trees.get tree q
        stays tree here = after_kept side q (trees.get tree q) (plan_of mode t).changes tree (each_gives (trees.get tree q) here) refl

        pub becomes : (tree : ByPath Atom) (w : Option Atom) (change : Change) → IsAmong t d.at → change_at mode t d.at ≡ Some change
            → touches side q change ≡ true → trees.get change.new q ≡ w → trees.get (after side tree (plan_of mode t).changes) q ≡ w
        becomes tree w change has is there gives =
            after_given side q w (plan_of mode t).changes tree
            (each_gives w (subst (λ (o : Option Change). IfSome o (Gives side q w)) (sym is) (λ _. gives)))
            (any_kept (touches side q) (is_point t) (change_at mode t) d.at change (decider_is_point t q d) is there (paths_of t) has)

      pub some_conflict : (found : Conflict) → IsAmong t d.at → conflict_at mode t d.at ≡ Some found → (plan_of mode t).conflicts ≡ [] → ⊥
      some_conflict found has is none =
          let some : list_any (λ _. true) (plan_of mode t).conflicts ≡ true = any_kept (λ _. true) (is_point t) (conflict_at mode t) d.at found (decider_is_point t q d) is refl (paths_of t) has in
          let no : true ≡ false = sym some ∙ ap (list_any (λ _. true)) none in
          cc

      -- where neither side holds anything at the deciding point, neither does at the path
      pub both_gone : (side : ByPath Atom) → IsClosed is_dir side → is_some (trees.get side d.at) ≡ false → trees.get side q ≡ None
      both_gone side side_closed none = nothing_under side side_closed d.at q (none_there _ none) d.under

      -- below what is no folder stands nothing
      pub leaf_below : (side : ByPath Atom) → IsClosed is_dir side → is_under d.at q ≡ false → holds_folder (trees.get side d.at) ≡ false → trees.get side q ≡ None
      leaf_below side side_closed down leaf = by (trees.get side q) refl
        where
          by : (o : Option Atom) → trees.get side q ≡ o → o ≡ None
          by None is = refl
          by (Some x) is = let no : true ≡ false = sym (folder_above side side_closed q d.at d.under down (ap is_some is)) ∙ leaf in absurd (cc)

      both_agree : trees.get t.alpha d.at ≡ trees.get t.beta d.at → trees.get t.alpha q ≡ trees.get t.beta q
      both_agree same = by (is_under d.at q) refl d.stop
        where
          no_folder : folders t d.at ≡ false → holds_folder (trees.get t.alpha d.at) ≡ false
          no_folder stops = false_from_ne_true (holds_folder (trees.get t.alpha d.at)) (λ e. let no : true ≡ false = sym (and_from _ _ e (ap holds_folder (sym same) ∙ e)) ∙ stops in cc)

          by : (c : Bool) → is_under d.at q ≡ c → (d.at ≡ q) ⊎ (folders t d.at ≡ false) → trees.get t.alpha q ≡ trees.get t.beta q
          by true e stop = let here : q ≡ d.at = under_both q d.at d.under e in ap (trees.get t.alpha) here ∙ same ∙ ap (trees.get t.beta) (sym here)
          by false e (inl here) = ap (trees.get t.alpha) (sym here) ∙ same ∙ ap (trees.get t.beta) here
          by false e (inr stops) =
              leaf_below t.alpha alpha_closed e (no_folder stops)
              ∙ sym (leaf_below t.beta beta_closed e (ap holds_folder (sym same) ∙ no_folder stops))

      -- where the decision makes both sides the same, they hold the same after the changes
      pub meets_at : (v : Verdict) → verdict mode t d.at ≡ v → meets v ≡ true
          → Met (IsAmong t d.at) (trees.get t.alpha d.at ≡ trees.get t.beta d.at) (is_some (trees.get t.alpha d.at)) (is_some (trees.get t.beta d.at)) v
          → SidesMeetAt t (plan_of mode t) q
      meets_at v is m met = by v is m met
        where
          change : (v : Verdict) → verdict mode t d.at ≡ v → change_at mode t d.at ≡ change_by t d.at v
          change v is = change_is d.at ∙ ap (change_by t d.at) is

          other : (side : Side) (w : Option Atom) (v : Verdict) → verdict mode t d.at ≡ v → IfSome (change_by t d.at v) (Gives side q w) → IfSome (change_at mode t d.at) (Gives side q w)
          other side w v is h = subst (λ (o : Option Change). IfSome o (Gives side q w)) (sym (change v is)) h

          unchanged : (v : Verdict) → verdict mode t d.at ≡ v → change_by t d.at v ≡ None → trees.get t.alpha q ≡ trees.get t.beta q → SidesMeetAt t (plan_of mode t) q
          unchanged v is nothing same =
              stays Alpha t.alpha (other Alpha _ v is (subst (λ (o : Option Change). IfSome o (Gives Alpha q (trees.get t.alpha q))) (sym nothing) tt))
              ∙ same
              ∙ sym (stays Beta t.beta (other Beta _ v is (subst (λ (o : Option Change). IfSome o (Gives Beta q (trees.get t.beta q))) (sym nothing) tt)))

          by : (v : Verdict) → verdict mode t d.at ≡ v → meets v ≡ true
              → Met (IsAmong t d.at) (trees.get t.alpha d.at ≡ trees.get t.beta d.at) (is_some (trees.get t.alpha d.at)) (is_some (trees.get t.beta d.at)) v
              → SidesMeetAt t (plan_of mode t) q
          by verdicts.AlphaTakes is m has =
              becomes Alpha t.alpha (trees.get t.beta q) _ has (change verdicts.AlphaTakes is) d.under (get-subtree t.beta d.at q d.under)
              ∙ sym (stays Beta t.beta (other Beta _ verdicts.AlphaTakes is (λ there. let no : false ≡ true = there in absurd (cc))))
          by verdicts.BetaTakes is m has =
              stays Alpha t.alpha (other Alpha _ verdicts.BetaTakes is (λ there. let no : false ≡ true = there in absurd (cc)))
              ∙ sym (becomes Beta t.beta (trees.get t.alpha q) _ has (change verdicts.BetaTakes is) d.under (get-subtree t.alpha d.at q d.under))
          by verdicts.AlphaEmptied is m met =
              becomes Alpha t.alpha None _ met.0 (change verdicts.AlphaEmptied is) d.under (trees.get-empty path_cmp q)
              ∙ sym (both_gone t.beta beta_closed met.1)
              ∙ sym (stays Beta t.beta (other Beta _ verdicts.AlphaEmptied is (λ there. let no : false ≡ true = there in absurd (cc))))
          by verdicts.BetaEmptied is m met =
              stays Alpha t.alpha (other Alpha _ verdicts.BetaEmptied is (λ there. let no : false ≡ true = there in absurd (cc)))
              ∙ both_gone t.alpha alpha_closed met.1
              ∙ sym (becomes Beta t.beta None _ met.0 (change verdicts.BetaEmptied is) d.under (trees.get-empty path_cmp q))
          by verdicts.Gone is m met = unchanged verdicts.Gone is refl (both_gone t.alpha alpha_closed met.0 ∙ sym (both_gone t.beta beta_closed met.1))
          by verdicts.Agreed is m same = unchanged verdicts.Agreed is refl (both_agree same)
          by verdicts.Both is m met = absurd (cc)
          by verdicts.Left is m met = absurd (cc)
          by verdicts.Blocked is m met = absurd (cc)
          by verdicts.BetaKeeps is m met = absurd (cc)

  module _ (closed : AreClosed t) where
    -- at each path that is decided at a point
    pub meets_at_point : (p : Names) → IsAmong t p → is_point t p ≡ true → meets (verdict mode t p) ≡ true → (q : Names) → is_decided_at t p q ≡ true → SidesMeetAt t (plan_of mode t) q
    meets_at_point p has point m q decided =
        let both = and_parts (is_under q p) (is_under p q || not (folders t p)) decided in
        meets_at closed.alpha closed.beta q (decides t closed p q point has both.0 (stop (or_cases (is_under p q) (not (folders t p)) both.1) both.0)) (verdict mode t p) refl m (known p)
      where
        stop : (is_under p q ≡ true) ⊎ (not (folders t p) ≡ true) → is_under q p ≡ true → (p ≡ q) ⊎ (folders t p ≡ false)
        stop (inl up) under = inl (under_both p q up under)
        stop (inr leaf) under = inr (not_turned (folders t p) leaf)

    pub meets_at_points : AllByRecursion (λ point. meets (verdict mode t point) ≡ true → (q : Names) → is_decided_at t point q ≡ true → SidesMeetAt t (plan_of mode t) q) (points_of t)
    meets_at_points = points_in _ (IsAmong t) (is_point t) (λ p has point. meets_at_point p has point) (paths_of t) (each_among t)

    changes_meet : (p : Names) (v : Verdict) (c : Change) → change_by t p v ≡ Some c → meets v ≡ true
    changes_meet p verdicts.AlphaTakes c e = refl
    changes_meet p verdicts.BetaTakes c e = refl
    changes_meet p verdicts.AlphaEmptied c e = refl
    changes_meet p verdicts.BetaEmptied c e = refl
    changes_meet p verdicts.Gone c e = refl
    changes_meet p verdicts.Agreed c e = refl
    changes_meet p verdicts.Left c e = absurd (none_is_not_some c e)
    changes_meet p verdicts.Blocked c e = absurd (none_is_not_some c e)
    changes_meet p verdicts.BetaKeeps c e = absurd (none_is_not_some c e)
    changes_meet p verdicts.Both c e = absurd (none_is_not_some c e)

    -- where both sides don't agree, a point isn't a folder on both
    no_folder : (p : Names) → Stops mode t p → folders t p ≡ false
    no_folder p stops = false_from_ne_true (folders t p) (λ e. stops.differs (folder_agrees t mode p e))

    pub meets_at_changes : AllByRecursion (λ (change : Change). (q : Names) → is_under q change.at ≡ true → SidesMeetAt t (plan_of mode t) q) (plan_of mode t).changes
    meets_at_changes =
        kept_in (IsAmong t) (is_point t) (change_at mode t) (λ (change : Change). (q : Names) → is_under q change.at ≡ true → SidesMeetAt t (plan_of mode t) q)
        (λ p has point c is q under.
        let stop = change_stop mode t p c is in
        meets_at closed.alpha closed.beta q (decides t closed p q point has (ap (is_under q) (sym stop.0) ∙ under) (inr (no_folder p stop.1)))
        (verdict mode t p) refl (changes_meet p (verdict mode t p) c (sym (change_is p) ∙ is)) (known p))
        (paths_of t) (each_among t)

    -- where a conflict is reported, nothing is changed
    no_change_there : (p : Names) (f : Conflict) → conflict_at mode t p ≡ Some f → (o : Option Change) → change_at mode t p ≡ o → change_at mode t p ≡ None
    no_change_there p f reported None is = is
    no_change_there p f reported (Some c) is = absurd (one_kind mode t p p c f is reported refl)

    -- at and below a conflict's path all is left
    pub conflicts_left : AllByRecursion (λ (found : Conflict). IsLeft t (plan_of mode t) found.at) (plan_of mode t).conflicts
    conflicts_left =
        kept_in (IsAmong t) (is_point t) (conflict_at mode t) (λ (found : Conflict). IsLeft t (plan_of mode t) found.at)
        (λ p has point f is.
        let stop = conflict_stop mode t p f is in
        subst (IsLeft t (plan_of mode t)) (sym stop.0) (left p has point f is stop.1))
        (paths_of t) (each_among t)
      where
        left : (p : Names) → IsAmong t p → is_point t p ≡ true → (f : Conflict) → conflict_at mode t p ≡ Some f → Stops mode t p → IsLeft t (plan_of mode t) p
        left p has point f is stops =
            let none : change_at mode t p ≡ None = no_change_there p f is (change_at mode t p) refl in
            record {
              alpha = λ q under. stays closed.alpha closed.beta q (decides t closed p q point has under (inr (no_folder p stops))) Alpha t.alpha (subst (λ (o : Option Change). IfSome o (Gives Alpha q (trees.get t.alpha q))) (sym none) tt);
              beta = λ q under. stays closed.alpha closed.beta q (decides t closed p q point has under (inr (no_folder p stops))) Beta t.beta (subst (λ (o : Option Change). IfSome o (Gives Beta q (trees.get t.beta q))) (sym none) tt);
              ancestor = λ tree folds q under.
                  fold_kept q (trees.get t.ancestor q) t.ancestor tree (plan_of mode t).agreed folds
                  (lines_give mode t closed q (decides t closed p q point has under (inr (no_folder p stops))) (trees.get t.ancestor q)
                  (λ l there. absurd (none_is_not_some l (sym stops.unwritten ∙ there))) (paths_of t) (each_among t)) refl;
            }

pub is_free : (tree : ByPath Atom) (q : Names) → HoldsOnlyTracked tree → is_blocked (trees.get tree q) ≡ false
is_free tree q tracked = by (trees.get tree q) (tracked q)
  where
    by : (o : Option Atom) → ((atom : Atom) → o ≡ Some atom → is_tracked atom ≡ true) → is_blocked o ≡ false
    by None h = refl
    by (Some x) h = ap not (h x refl)

-- where all is tracked, each decision makes both sides the same, or is a conflict of both
tracked_meets : (mode : Mode) → Takes mode → (t : Trees) → HoldsOnlyTracked t.alpha → HoldsOnlyTracked t.beta → (p : Names) → MeetsOrBoth (verdict mode t p)
tracked_meets mode takes t alpha beta p =
    let a = trees.get t.alpha p in
    let b = trees.get t.beta p in
    let free : (is_blocked a || is_blocked b) ≡ false = λ i. is_free t.alpha p alpha i || is_free t.beta p beta i in
    by_case MeetsOrBoth mode a b (comparison t t.alpha p) (comparison t t.beta p)
    (λ _ stops. let no : true ≡ false = sym stops ∙ free in absurd (cc))
    (λ stops. let no : true ≡ false = sym stops ∙ free in absurd (cc))
    (λ _ _. inl refl) (λ _. inl refl)
    (λ _ _ _ _. takes (comparison t t.alpha p) (comparison t t.beta p) (is_some a))

pub sides_meet : (mode : Mode) → Takes mode → MakesSidesMeet mode
sides_meet mode takes t tracked none =
    trees.same_map path_cmp_total path_same _ _ (λ q. at q (decider t q))
  where
    at : (q : Names) → Decider t q → SidesMeetAt t (plan_of mode t) q
    at q d = by (tracked_meets mode takes t tracked.alpha_tracked tracked.beta_tracked d.at)
      where
        both : verdict mode t d.at ≡ verdicts.Both → SidesMeetAt t (plan_of mode t) q
        both is =
            let has : IsAmong t d.at =
            subst (Met (IsAmong t d.at) (trees.get t.alpha d.at ≡ trees.get t.beta d.at) (is_some (trees.get t.alpha d.at)) (is_some (trees.get t.beta d.at))) is (known mode t d.at) in
            absurd (some_conflict mode t tracked.alpha_closed tracked.beta_closed q d _ has (conflict_is mode t d.at ∙ ap (conflict_by t d.at) is) none)

        by : MeetsOrBoth (verdict mode t d.at) → SidesMeetAt t (plan_of mode t) q
        by (inl m) = meets_at mode t tracked.alpha_closed tracked.beta_closed q d (verdict mode t d.at) refl m (known mode t d.at)
        by (inr is) = both is

pub safe_meets : MakesSidesMeet TwoWaySafe
safe_meets = sides_meet TwoWaySafe safe_takes

pub resolved_meets : MakesSidesMeet TwoWayResolved
resolved_meets = sides_meet TwoWayResolved resolved_takes

pub replica_meets : MakesSidesMeet OneWayReplica
replica_meets = sides_meet OneWayReplica replica_takes
