-- In the safe modes a side is changed only where it is, at and below the path, as the ancestor or less; in every mode alpha is.
use Rattle.std.proofs.Common.{◌≡◌, Bool, true, false, ◌||◌, refl, sym, ◌∙◌, inl, inr, Option, Some, None, IfSome}
use Rattle.std.specs.FinMap as trees
use Rattle.std.specs.List.{list_any}
use Rattle.std.specs.Option.{is_some}
use Rattle.std.specs.Ordering.{eq_by_cmp}
use Rattle.std.proofs.lemmas.Bool.{or_cases}
use Rattle.sync_path.specs.Path.{path_cmp, is_under}
use Rattle.entry_tree.specs.Tree.{Names, ByPath}
use Rattle.entry_tree.specs.declared.atom.Atom.{Atom}
use Rattle.entry_tree.specs.declared.side.Side.TheVariants.{Alpha, Beta}
use Rattle.mode_rules.specs.declared.mode.Mode.{Mode}
use Rattle.mode_rules.specs.declared.mode.Mode.TheVariants.{TwoWaySafe, TwoWayResolved, OneWaySafe, OneWayReplica}
use Rattle.mode_rules.specs.declared.comparing.Comparison.{Comparison}
use Rattle.mode_rules.specs.declared.verdict.Verdict.{Verdict}
use Rattle.mode_rules.specs.declared.verdict.Verdict.TheVariants as verdicts
use Rattle.mode_rules.specs.Laws.{TakesOnlyTheAncestors}
use Rattle.mode_rules.specs.Trees.{Trees, paths_of, compared}
use Rattle.mode_rules.specs.Verdicts.{by_mode, comparison, verdict}
use Rattle.mode_rules.specs.Plans.{change_at, change_by}
use Rattle.mode_rules.proofs.Cases.{by_case, same_is, less_is}
use Rattle.mode_rules.proofs.Held.{has_alphas, has_betas, same_each, less_each}

-- the comparison of the side that is changed
abbrev Licence : Comparison → Comparison → Verdict → Type 0
Licence sa sb verdicts.AlphaTakes = (sa.same || sa.less) ≡ true
Licence sa sb verdicts.AlphaEmptied = (sa.same || sa.less) ≡ true
Licence sa sb verdicts.BetaTakes = (sb.same || sb.less) ≡ true
Licence sa sb verdicts.BetaEmptied = (sb.same || sb.less) ≡ true
Licence sa sb verdicts.Left = Unit {0}
Licence sa sb verdicts.Blocked = Unit {0}
Licence sa sb verdicts.Gone = Unit {0}
Licence sa sb verdicts.Agreed = Unit {0}
Licence sa sb verdicts.BetaKeeps = Unit {0}
Licence sa sb verdicts.Both = Unit {0}

licence_by : (a al b bl holds : Bool)
    → Licence (record { same = a; less = al }) (record { same = b; less = bl }) (by_mode TwoWaySafe holds (record { same = a; less = al }) (record { same = b; less = bl }))
licence_by true al b bl holds = refl
licence_by false al true bl holds = refl
licence_by false true false true true = refl
licence_by false true false true false = refl
licence_by false true false false holds = refl
licence_by false false false true holds = refl
licence_by false false false false holds = tt

something : (x : Option Atom) (atom : Atom) → compared x ≡ Some atom → is_some x ≡ true
something None atom e = absurd (cc)
something (Some x) atom e = refl

-- a side that is the same or less holds what the ancestor holds, or nothing
pub is_the_ancestors : (t : Trees) (side : ByPath Atom) (path q : Names) (atom : Atom) → (comparison t side path).same ≡ true → list_any (eq_by_cmp path_cmp q) (paths_of t) ≡ true
    → is_under q path ≡ true → compared (trees.get side q) ≡ Some atom → trees.get t.ancestor q ≡ Some atom
is_the_ancestors t side path q atom h has under is = sym (same_is _ _ (same_each t side path q h has under)) ∙ is

is_the_ancestors_of_less : (t : Trees) (side : ByPath Atom) (path q : Names) (atom : Atom) → (comparison t side path).less ≡ true → list_any (eq_by_cmp path_cmp q) (paths_of t) ≡ true
    → is_under q path ≡ true → compared (trees.get side q) ≡ Some atom → trees.get t.ancestor q ≡ Some atom
is_the_ancestors_of_less t side path q atom h has under is =
    elim (less_is (compared (trees.get side q)) (trees.get t.ancestor q) (less_each t side path q h has under)) [
      | inl none ↦ let no : None ≡ Some atom = sym none ∙ is in absurd (cc)
      | inr same ↦ sym same ∙ is
    ]

licensed : (t : Trees) (side : ByPath Atom) (path q : Names) (atom : Atom) → ((comparison t side path).same || (comparison t side path).less) ≡ true
    → list_any (eq_by_cmp path_cmp q) (paths_of t) ≡ true → is_under q path ≡ true → compared (trees.get side q) ≡ Some atom → trees.get t.ancestor q ≡ Some atom
licensed t side path q atom h has under is =
    elim (or_cases (comparison t side path).same (comparison t side path).less h) [
      | inl same ↦ is_the_ancestors t side path q atom same has under is
      | inr less ↦ is_the_ancestors_of_less t side path q atom less has under is
    ]

of_alpha : (t : Trees) (path : Names) → ((comparison t t.alpha path).same || (comparison t t.alpha path).less) ≡ true → (q : Names) (atom : Atom)
    → is_under q path ≡ true → compared (trees.get t.alpha q) ≡ Some atom → trees.get t.ancestor q ≡ Some atom
of_alpha t path h q atom under is = licensed t t.alpha path q atom h (has_alphas t q (something (trees.get t.alpha q) atom is)) under is

of_beta : (t : Trees) (path : Names) → ((comparison t t.beta path).same || (comparison t t.beta path).less) ≡ true → (q : Names) (atom : Atom)
    → is_under q path ≡ true → compared (trees.get t.beta q) ≡ Some atom → trees.get t.ancestor q ≡ Some atom
of_beta t path h q atom under is = licensed t t.beta path q atom h (has_betas t q (something (trees.get t.beta q) atom is)) under is

takes_by : (t : Trees) (path : Names) (v : Verdict) → Licence (comparison t t.alpha path) (comparison t t.beta path) v → IfSome (change_by t path v) (TakesOnlyTheAncestors t)
takes_by t path verdicts.AlphaTakes h = of_alpha t path h
takes_by t path verdicts.AlphaEmptied h = of_alpha t path h
takes_by t path verdicts.BetaTakes h = of_beta t path h
takes_by t path verdicts.BetaEmptied h = of_beta t path h
takes_by t path verdicts.Left h = tt
takes_by t path verdicts.Blocked h = tt
takes_by t path verdicts.Gone h = tt
takes_by t path verdicts.Agreed h = tt
takes_by t path verdicts.BetaKeeps h = tt
takes_by t path verdicts.Both h = tt

or_second : (a b : Bool) → b ≡ true → (a || b) ≡ true
or_second true b e = refl
or_second false b e = e

one_way_licence : (sa : Comparison) (b bl holds : Bool) → Licence sa (record { same = b; less = bl }) (by_mode OneWaySafe holds sa (record { same = b; less = bl }))
one_way_licence sa b true holds = or_second b true refl
one_way_licence sa b false true = tt
one_way_licence sa b false false = tt

takes_only : (mode : Mode) → ((sa sb : Comparison) (holds : Bool) → Licence sa sb (by_mode mode holds sa sb)) → (t : Trees) (path : Names)
    → IfSome (change_at mode t path) (TakesOnlyTheAncestors t)
unfolding change_at
takes_only mode licence t path =
    let sa : Comparison = comparison t t.alpha path in
    let sb : Comparison = comparison t t.beta path in
    takes_by t path (verdict mode t path)
    (by_case (Licence sa sb) mode (trees.get t.alpha path) (trees.get t.beta path) sa sb (λ _ _. tt) (λ _. tt) (λ _ _. tt) (λ _. tt)
    (λ _ _ _ _. licence sa sb (is_some (trees.get t.alpha path))))

pub two_way_takes : (t : Trees) (path : Names) → IfSome (change_at TwoWaySafe t path) (TakesOnlyTheAncestors t)
two_way_takes t path = takes_only TwoWaySafe (λ sa sb holds. licence_by sa.same sa.less sb.same sb.less holds) t path

pub one_way_takes : (t : Trees) (path : Names) → IfSome (change_at OneWaySafe t path) (TakesOnlyTheAncestors t)
one_way_takes t path = takes_only OneWaySafe (λ sa sb holds. one_way_licence sa sb.same sb.less holds) t path

-- alpha's comparison where alpha is changed
abbrev AlphaLicence : Comparison → Verdict → Type 0
AlphaLicence sa verdicts.AlphaTakes = (sa.same || sa.less) ≡ true
AlphaLicence sa verdicts.AlphaEmptied = (sa.same || sa.less) ≡ true
AlphaLicence sa verdicts.BetaTakes = Unit {0}
AlphaLicence sa verdicts.BetaEmptied = Unit {0}
AlphaLicence sa verdicts.Left = Unit {0}
AlphaLicence sa verdicts.Blocked = Unit {0}
AlphaLicence sa verdicts.Gone = Unit {0}
AlphaLicence sa verdicts.Agreed = Unit {0}
AlphaLicence sa verdicts.BetaKeeps = Unit {0}
AlphaLicence sa verdicts.Both = Unit {0}

-- in every mode alpha is changed only where it is as the ancestor or less
alpha_licence : (mode : Mode) (a al b bl holds : Bool)
    → AlphaLicence (record { same = a; less = al }) (by_mode mode holds (record { same = a; less = al }) (record { same = b; less = bl }))
alpha_licence TwoWaySafe true al b bl holds = refl
alpha_licence TwoWaySafe false al true bl holds = tt
alpha_licence TwoWaySafe false true false true true = refl
alpha_licence TwoWaySafe false true false true false = tt
alpha_licence TwoWaySafe false true false false holds = refl
alpha_licence TwoWaySafe false false false true holds = tt
alpha_licence TwoWaySafe false false false false holds = tt
alpha_licence TwoWayResolved true al b bl holds = refl
alpha_licence TwoWayResolved false al b bl holds = tt
alpha_licence OneWaySafe a al b true holds = tt
alpha_licence OneWaySafe a al b false true = tt
alpha_licence OneWaySafe a al b false false = tt
alpha_licence OneWayReplica a al b bl holds = tt

beta_is_not_alpha : Beta ≡ Alpha → ⊥
beta_is_not_alpha e = cc

alpha_by : (t : Trees) (path : Names) (v : Verdict) → AlphaLicence (comparison t t.alpha path) v
    → IfSome (change_by t path v) (λ change. change.side ≡ Alpha → TakesOnlyTheAncestors t change)
alpha_by t path verdicts.AlphaTakes h = λ _. of_alpha t path h
alpha_by t path verdicts.AlphaEmptied h = λ _. of_alpha t path h
alpha_by t path verdicts.BetaTakes h = λ beta. absurd (beta_is_not_alpha beta)
alpha_by t path verdicts.BetaEmptied h = λ beta. absurd (beta_is_not_alpha beta)
alpha_by t path verdicts.Left h = tt
alpha_by t path verdicts.Blocked h = tt
alpha_by t path verdicts.Gone h = tt
alpha_by t path verdicts.Agreed h = tt
alpha_by t path verdicts.BetaKeeps h = tt
alpha_by t path verdicts.Both h = tt

pub alpha_takes : (mode : Mode) (t : Trees) (path : Names) → IfSome (change_at mode t path) (λ change. change.side ≡ Alpha → TakesOnlyTheAncestors t change)
unfolding change_at
alpha_takes mode t path =
    let sa : Comparison = comparison t t.alpha path in
    let sb : Comparison = comparison t t.beta path in
    alpha_by t path (verdict mode t path)
    (by_case (AlphaLicence sa) mode (trees.get t.alpha path) (trees.get t.beta path) sa sb (λ _ _. tt) (λ _. tt) (λ _ _. tt) (λ _. tt)
    (λ _ _ _ _. alpha_licence mode sa.same sa.less sb.same sb.less (is_some (trees.get t.alpha path))))
