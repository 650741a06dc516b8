-- Laws of every plan: what the cases allow, and what that makes of the lists.
use Rattle.std.proofs.Common.{◌≡◌, Bool, true, false, cond, List, [], ◌∷◌, refl, sym, subst, Option, Some, None, IfSome}
use Rattle.std.specs.List.{AllByRecursion, filter_map, cons_option}
use Rattle.std.specs.Option.{is_some}
use Rattle.std.specs.FinMap as trees
use Rattle.std.proofs.lemmas.Slice.Eq.{bytes_eq-Decides}
use Rattle.entry_tree.specs.Tree.{Names, ByPath}
use Rattle.entry_tree.specs.declared.atom.Atom.{Atom}
use Rattle.entry_tree.specs.declared.atom.Atom.TheVariants.{Dir, File, Link, Untracked, Problem}
use Rattle.entry_tree.specs.declared.side.Side.TheVariants.{Beta}
use Rattle.mode_rules.specs.declared.mode.Mode.{Mode}
use Rattle.mode_rules.specs.declared.mode.Mode.TheVariants.{OneWaySafe, OneWayReplica}
use Rattle.mode_rules.specs.declared.comparing.Comparison.{Comparison}
use Rattle.mode_rules.specs.declared.verdict.Verdict.{Verdict}
use Rattle.mode_rules.specs.declared.verdict.Verdict.TheVariants as verdicts
use Rattle.mode_rules.specs.Trees.{Trees}
use Rattle.mode_rules.specs.Verdicts.{by_mode, first_case, comparison, verdict}
use Rattle.mode_rules.proofs.Cases.{by_case, same_itself}
use Rattle.mode_rules.specs.Plans.{change_at, change_by, conflict_at, conflict_by}

kept_first : {Y : Type 0} (P : Y → Type 0) (o : Option Y) (ys : List Y) → IfSome o P → AllByRecursion P ys → AllByRecursion P (cons_option o ys)
kept_first P None ys h rest = rest
kept_first P (Some y) ys h rest = (h, rest)

-- what holds of each answer that is something holds of them all
pub all_kept : {X Y : Type 0} (P : Y → Type 0) (f : X → Option Y) → ((x : X) → IfSome (f x) P) → (xs : List X) → AllByRecursion P (filter_map f xs)
all_kept P f each [] = tt
all_kept P f each (x ∷ xs) = kept_first P (f x) (filter_map f xs) (each x) (all_kept P f each xs)

-- where each answer is nothing, there are none
pub none_kept : {X Y : Type 0} (f : X → Option Y) → ((x : X) → f x ≡ None) → (xs : List X) → filter_map f xs ≡ []
none_kept f each [] = refl
none_kept f each (x ∷ xs) = subst (λ o. cons_option o (filter_map f xs) ≡ []) (sym (each x)) (none_kept f each xs)

-- the change that a decision makes, if any, is one of beta
abbrev BetaAlone : Verdict → Type 0
BetaAlone v = (t : Trees) (path : Names) → IfSome (change_by t path v) (λ change. change.side ≡ Beta)

safe_by_mode : (sa sb : Comparison) (h : Bool) → BetaAlone (by_mode OneWaySafe h sa sb)
safe_by_mode sa sb h = by sb.less h
  where
    by : (less h : Bool) → BetaAlone (by_mode OneWaySafe h sa (record { same = sb.same; less = less }))
    by true h = λ t path. refl
    by false true = λ t path. tt
    by false false = λ t path. tt

-- the cases before the mode change nothing
beta_by_case : (mode : Mode) → ((sa sb : Comparison) (h : Bool) → BetaAlone (by_mode mode h sa sb)) → (t : Trees) (path : Names)
    → IfSome (change_by t path (verdict mode t path)) (λ change. change.side ≡ Beta)
beta_by_case mode by t path =
    by_case BetaAlone mode (trees.get t.alpha path) (trees.get t.beta path) (comparison t t.alpha path) (comparison t t.beta path)
    (λ _ _ t path. tt) (λ _ t path. tt) (λ _ _ t path. tt) (λ _ t path. tt)
    (λ _ _ _ _. by (comparison t t.alpha path) (comparison t t.beta path) (is_some (trees.get t.alpha path))) t path

pub safe_beta : (t : Trees) (path : Names) → IfSome (change_at OneWaySafe t path) (λ change. change.side ≡ Beta)
unfolding change_at
safe_beta t path = beta_by_case OneWaySafe safe_by_mode t path

pub replica_beta : (t : Trees) (path : Names) → IfSome (change_at OneWayReplica t path) (λ change. change.side ≡ Beta)
unfolding change_at
replica_beta t path = beta_by_case OneWayReplica (λ sa sb h t path. refl) t path

-- where both sides hold the same, nothing is there, or it is agreed, or it is left
equal_case : (P : Verdict → Type 0) (mode : Mode) (a : Option Atom) (sa sb : Comparison) → P verdicts.Gone → P verdicts.Agreed → P verdicts.Left → P (first_case mode a a sa sb)
equal_case P mode None sa sb gone agreed left = gone
equal_case P mode (Some Dir) sa sb gone agreed left = agreed
equal_case P mode (Some (File d x)) sa sb gone agreed left =
    subst (λ b. P (cond b verdicts.Agreed (by_mode mode true sa sb))) (sym (same_itself (Some (File d x)))) agreed
equal_case P mode (Some (Link x)) sa sb gone agreed left =
    subst (λ b. P (cond b verdicts.Agreed (by_mode mode true sa sb))) (sym ((bytes_eq-Decides x x).1 refl)) agreed
equal_case P mode (Some Untracked) sa sb gone agreed left = left
equal_case P mode (Some (Problem k)) sa sb gone agreed left = left

equal_verdict : (P : Verdict → Type 0) (mode : Mode) (t : Trees) (path : Names) → t.alpha ≡ t.beta → P verdicts.Gone → P verdicts.Agreed → P verdicts.Left → P (verdict mode t path)
equal_verdict P mode t path same gone agreed left =
    subst (λ (beta : ByPath Atom). P (first_case mode (trees.get t.alpha path) (trees.get beta path) (comparison t t.alpha path) (comparison t t.beta path))) same
    (equal_case P mode (trees.get t.alpha path) _ _ gone agreed left)

pub equal_changes : (mode : Mode) (t : Trees) (path : Names) → t.alpha ≡ t.beta → change_at mode t path ≡ None
unfolding change_at
equal_changes mode t path same = equal_verdict (λ v. change_by t path v ≡ None) mode t path same refl refl refl

pub equal_conflicts : (mode : Mode) (t : Trees) (path : Names) → t.alpha ≡ t.beta → conflict_at mode t path ≡ None
unfolding conflict_at
equal_conflicts mode t path same = equal_verdict (λ v. conflict_by t path v ≡ None) mode t path same refl refl refl
