-- What each change is made of, and what it may take away.
use Rattle.std.proofs.Common.{◌≡◌, Bool, true, false, cond, not, refl, sym, ap, ◌∙◌, Option, Some, None, IfSome}
use Rattle.std.specs.FinMap as trees
use Rattle.std.specs.Option.{is_some}
use Rattle.sync_path.specs.Path.{path_cmp, is_under}
use Rattle.sync_path.specs.PathOrder.{path_cmp_total}
use Rattle.entry_tree.specs.Atom.{is_dir, is_tracked}
use Rattle.entry_tree.specs.Subtree.{subtree}
use Rattle.entry_tree.specs.Tree.{Names, ByPath, IsClosed}
use Rattle.entry_tree.specs.declared.atom.Atom.{Atom}
use Rattle.entry_tree.specs.declared.atom.Atom.TheVariants.{Dir, File, Link, Untracked, Problem}
use Rattle.entry_tree.proofs.Maps.{alike}
use Rattle.entry_tree.proofs.Paths.{path_same, under_itself}
use Rattle.mode_rules.specs.declared.change.Change.{Change}
use Rattle.mode_rules.specs.declared.comparing.Comparison.{Comparison}
use Rattle.mode_rules.specs.declared.mode.Mode.{Mode}
use Rattle.mode_rules.specs.declared.mode.Mode.TheVariants.{TwoWaySafe, TwoWayResolved, OneWaySafe, OneWayReplica}
use Rattle.mode_rules.specs.declared.verdict.Verdict.{Verdict}
use Rattle.mode_rules.specs.declared.verdict.Verdict.TheVariants as verdicts
use Rattle.mode_rules.specs.ChangeLaws.{AreClosed, TakesFromOther, ReplacesOthers, IsLicensed}
use Rattle.mode_rules.specs.Laws.{TakesOnlyTheAncestors}
use Rattle.mode_rules.specs.Plans.{change_at, change_by}
use Rattle.mode_rules.specs.Trees.{Trees, holds_folder, same_there, compared}
use Rattle.mode_rules.specs.Verdicts.{by_mode, comparison, verdict}
use Rattle.mode_rules.proofs.Below.{under_both, folder_above}
use Rattle.mode_rules.proofs.Cases.{by_case, mode_case, same_itself, folder_there, one_holds, less_is}
use Rattle.mode_rules.proofs.Held.{less_each}
use Rattle.mode_rules.proofs.Deciding.{some_among}

-- where a closed tree holds nothing at a path, it holds nothing below it
pub nothing_under : (tree : ByPath Atom) → IsClosed is_dir tree → (at q : Names) → trees.get tree at ≡ None → is_under q at ≡ true → trees.get tree q ≡ None
nothing_under tree closed at q none under = by (is_under at q) (trees.get tree q) refl refl
  where
    by : (b : Bool) (o : Option Atom) → is_under at q ≡ b → trees.get tree q ≡ o → o ≡ None
    by true o e is = sym is ∙ ap (trees.get tree) (under_both q at under e) ∙ none
    by false None e is = refl
    by false (Some x) e is =
        let folder : holds_folder (trees.get tree at) ≡ true = folder_above tree closed q at under e (ap is_some is) in
        let no : false ≡ true = sym (ap holds_folder none) ∙ folder in
        absurd (cc)

pub get-subtree-any : (tree : ByPath Atom) (at q : Names) → trees.get (subtree tree at) q ≡ cond (is_under q at) (trees.get tree q) None
get-subtree-any tree at q = trees.get-retain_keys tree (λ p. is_under p at) q (alike path_same (λ p. is_under p at) q)

-- its subtree there is empty
pub empty_subtree : (tree : ByPath Atom) → IsClosed is_dir tree → (at : Names) → trees.get tree at ≡ None → trees.empty ≡ subtree tree at
empty_subtree tree closed at none =
    trees.same_map path_cmp_total path_same _ _ (λ q. trees.get-empty path_cmp q ∙ sym (get-subtree-any tree at q ∙ by q (is_under q at) refl))
  where
    by : (q : Names) (b : Bool) → is_under q at ≡ b → cond b (trees.get tree q) None ≡ None
    by q true e = nothing_under tree closed at q none e
    by q false e = refl

none_there : (o : Option Atom) → is_some o ≡ false → o ≡ None
none_there None e = refl
none_there (Some x) e = absurd (cc)

-- which side holds nothing where one is emptied
abbrev Emptied : Option Atom → Option Atom → Verdict → Type 0
Emptied a b verdicts.AlphaEmptied = b ≡ None
Emptied a b verdicts.BetaEmptied = a ≡ None
Emptied a b verdicts.AlphaTakes = Unit {0}
Emptied a b verdicts.BetaTakes = Unit {0}
Emptied a b verdicts.Left = Unit {0}
Emptied a b verdicts.Blocked = Unit {0}
Emptied a b verdicts.Gone = Unit {0}
Emptied a b verdicts.Agreed = Unit {0}
Emptied a b verdicts.BetaKeeps = Unit {0}
Emptied a b verdicts.Both = Unit {0}

emptied_by : (a b : Option Atom) (mode : Mode) (sa sb : Comparison) → (sa.less ≡ true → sb.less ≡ true → is_some b ≡ not (is_some a)) → Emptied a b (by_mode mode (is_some a) sa sb)
emptied_by a b mode sa sb one = by mode sa.same sa.less sb.same sb.less a one
  where
    by : (mode : Mode) (s l s' l' : Bool) (a : Option Atom) → (l ≡ true → l' ≡ true → is_some b ≡ not (is_some a))
        → Emptied a b (by_mode mode (is_some a) (record { same = s; less = l }) (record { same = s'; less = l' }))
    by TwoWaySafe true l s' l' a one = tt
    by TwoWaySafe false l true l' a one = tt
    by TwoWaySafe false true false true (Some x) one = none_there b (one refl refl)
    by TwoWaySafe false true false true None one = refl
    by TwoWaySafe false true false false a one = tt
    by TwoWaySafe false false false true a one = tt
    by TwoWaySafe false false false false a one = tt
    by TwoWayResolved true l s' l' a one = tt
    by TwoWayResolved false l s' l' a one = tt
    by OneWaySafe s l s' true a one = tt
    by OneWaySafe s l s' false (Some x) one = tt
    by OneWaySafe s l s' false None one = tt
    by OneWayReplica s l s' l' a one = tt

-- the sides differ at the path wherever a change is made
abbrev Apart : Option Atom → Option Atom → Verdict → Type 0
Apart a b verdicts.AlphaEmptied = same_there a b ≡ false
Apart a b verdicts.BetaEmptied = same_there a b ≡ false
Apart a b verdicts.AlphaTakes = same_there a b ≡ false
Apart a b verdicts.BetaTakes = same_there a b ≡ false
Apart a b verdicts.Left = Unit {0}
Apart a b verdicts.Blocked = Unit {0}
Apart a b verdicts.Gone = Unit {0}
Apart a b verdicts.Agreed = Unit {0}
Apart a b verdicts.BetaKeeps = Unit {0}
Apart a b verdicts.Both = Unit {0}

module _ (mode : Mode) (t : Trees) (p : Names) where
  pub emptied : Emptied (trees.get t.alpha p) (trees.get t.beta p) (verdict mode t p)
  emptied =
      let a = trees.get t.alpha p in
      let b = trees.get t.beta p in
      let sa : Comparison = comparison t t.alpha p in
      let sb : Comparison = comparison t t.beta p in
      by_case (Emptied a b) mode a b sa sb (λ _ _. tt) (λ _. tt) (λ _ _. tt) (λ _. tt)
      (λ free_a free_b some apart. emptied_by a b mode sa sb (λ less_a less_b.
      one_holds a b (trees.get t.ancestor p) (record { alpha_free = free_a; beta_free = free_b; some = some; apart = apart })
      (less_is _ _ (less_each t t.alpha p p less_a (some_among t p some) (under_itself p)))
      (less_is _ _ (less_each t t.beta p p less_b (some_among t p some) (under_itself p)))))

  apart_there : Apart (trees.get t.alpha p) (trees.get t.beta p) (verdict mode t p)
  apart_there =
      let a = trees.get t.alpha p in
      let b = trees.get t.beta p in
      by_case (Apart a b) mode a b (comparison t t.alpha p) (comparison t t.beta p) (λ _ _. tt) (λ _. tt) (λ _ _. tt) (λ _. tt)
      (λ _ _ _ apart. mode_case (Apart a b) mode (is_some a) (comparison t t.alpha p) (comparison t t.beta p) apart apart apart apart tt tt)

module _ (t : Trees) (closed : AreClosed t) (p : Names) where
  takes_by : (v : Verdict) → Emptied (trees.get t.alpha p) (trees.get t.beta p) v → IfSome (change_by t p v) (TakesFromOther t)
  takes_by verdicts.AlphaTakes h = record { old = refl; new = refl }
  takes_by verdicts.BetaTakes h = record { old = refl; new = refl }
  takes_by verdicts.AlphaEmptied h = record { old = refl; new = empty_subtree t.beta closed.beta p h }
  takes_by verdicts.BetaEmptied h = record { old = refl; new = empty_subtree t.alpha closed.alpha p h }
  takes_by verdicts.Left h = tt
  takes_by verdicts.Blocked h = tt
  takes_by verdicts.Gone h = tt
  takes_by verdicts.Agreed h = tt
  takes_by verdicts.BetaKeeps h = tt
  takes_by verdicts.Both h = tt

  -- where the sides differ at a path, they don't hold one atom at any path below it either
  apart_below : same_there (trees.get t.alpha p) (trees.get t.beta p) ≡ false → (q : Names) (atom : Atom) → is_under q p ≡ true
      → trees.get t.alpha q ≡ Some atom → trees.get t.beta q ≡ Some atom → ⊥
  apart_below apart q atom under of_alpha of_beta = by (is_under p q) refl
    where
      same : (x y : Option Atom) → x ≡ y → same_there x y ≡ true
      same x y e = ap (same_there x) (sym e) ∙ same_itself x

      by : (b : Bool) → is_under p q ≡ b → ⊥
      by true e =
          let here : q ≡ p = under_both q p under e in
          let no : true ≡ false = sym (same _ _ (ap (trees.get t.alpha) (sym here) ∙ of_alpha ∙ sym of_beta ∙ ap (trees.get t.beta) here)) ∙ apart in
          cc
      by false e =
          let a : trees.get t.alpha p ≡ Some Dir = folder_there _ (folder_above t.alpha closed.alpha q p under e (ap is_some of_alpha)) in
          let b : trees.get t.beta p ≡ Some Dir = folder_there _ (folder_above t.beta closed.beta q p under e (ap is_some of_beta)) in
          let no : true ≡ false = sym (same _ _ (a ∙ sym b)) ∙ apart in
          cc

  replaces_by : (v : Verdict) → Apart (trees.get t.alpha p) (trees.get t.beta p) v → IfSome (change_by t p v) (ReplacesOthers t)
  replaces_by verdicts.AlphaTakes h = λ q atom under mine others. apart_below h q atom under mine others
  replaces_by verdicts.BetaTakes h = λ q atom under mine others. apart_below h q atom under others mine
  replaces_by verdicts.AlphaEmptied h = λ q atom under mine others. apart_below h q atom under mine others
  replaces_by verdicts.BetaEmptied h = λ q atom under mine others. apart_below h q atom under others mine
  replaces_by verdicts.Left h = tt
  replaces_by verdicts.Blocked h = tt
  replaces_by verdicts.Gone h = tt
  replaces_by verdicts.Agreed h = tt
  replaces_by verdicts.BetaKeeps h = tt
  replaces_by verdicts.Both h = tt

  pub takes_from_other : (mode : Mode) → IfSome (change_at mode t p) (TakesFromOther t)
  unfolding change_at
  takes_from_other mode = takes_by (verdict mode t p) (emptied mode t p)

  pub replaces_others : (mode : Mode) → IfSome (change_at mode t p) (ReplacesOthers t)
  unfolding change_at
  replaces_others mode = replaces_by (verdict mode t p) (apart_there mode t p)

compared_tracked : (o : Option Atom) (atom : Atom) → is_tracked atom ≡ true → o ≡ Some atom → compared o ≡ Some atom
compared_tracked o Dir tracked e = ap compared e
compared_tracked o (File digest executable) tracked e = ap compared e
compared_tracked o (Link text) tracked e = ap compared e
compared_tracked o Untracked tracked e = absurd (cc)
compared_tracked o (Problem kind) tracked e = absurd (cc)

-- what takes only the ancestor's, and replaces only what differs, is licensed
pub licensed_by : (t : Trees) (change : Change) → TakesOnlyTheAncestors t change → ReplacesOthers t change → IsLicensed t change
licensed_by t change takes replaces q atom under tracked is = (takes q atom under (compared_tracked _ atom tracked is), replaces q atom under is)

-- what follows from two facts on an answer, follows where both are known of it
pub with_both : {Y : Type 0} (P Q R : Y → Type 0) → ((y : Y) → P y → Q y → R y) → (o : Option Y) → IfSome o P → IfSome o Q → IfSome o R
with_both P Q R both None p q = tt
with_both P Q R both (Some y) p q = both y p q
