-- What the plan behind a settled one has left to do.
use Rattle.std.proofs.Common.{◌≡◌, Bool, true, false, cond, ◌||◌, refl, sym, ap, subst, ◌∙◌, inl, inr, Option, Some, None, IfSome}
use Rattle.std.specs.Prelude.{◌⊎◌}
use Rattle.std.specs.FinMap as trees
use Rattle.std.specs.Option.{is_some, option_map}
use Rattle.std.proofs.lemmas.Bool.{false_from_ne_true}
use Rattle.finite_maps.proofs.Constructors.{none_is_not_some}
use Rattle.entry_tree.specs.Tree.{Names}
use Rattle.entry_tree.specs.declared.atom.Atom.{Atom}
use Rattle.entry_tree.proofs.Paths.{under_itself}
use Rattle.mode_rules.specs.declared.ancestor_line.AncestorLine.{AncestorLine}
use Rattle.mode_rules.specs.declared.ancestor_line.AncestorLine.TheVariants as lines
use Rattle.mode_rules.specs.declared.comparing.Comparison.{Comparison}
use Rattle.mode_rules.specs.declared.mode.Mode.{Mode}
use Rattle.mode_rules.specs.declared.mode.Mode.TheVariants.{OneWaySafe}
use Rattle.mode_rules.specs.declared.verdict.Verdict.{Verdict}
use Rattle.mode_rules.specs.declared.verdict.Verdict.TheVariants as verdicts
use Rattle.mode_rules.specs.Plans.{change_at, change_by, conflict_at, conflict_by, line_at, line_of, points_of, plan_of}
use Rattle.mode_rules.specs.Trees.{Trees, compared, holds_tracked, is_blocked, less, same_there}
use Rattle.mode_rules.specs.Verdicts.{by_mode, comparison, first_case, verdict}
use Rattle.mode_rules.proofs.Cases.{compared_is, less_is, same_itself}
use Rattle.mode_rules.proofs.Held.{has_betas, less_each}
use Rattle.mode_rules.proofs.PlanLaws.{all_kept, none_kept}
use Rattle.plan_laws.specs.Settling.{DropsNothing, EachSettles, settled}
use Rattle.plan_laws.proofs.Settled.{Ends, met, kept, Settled, tree, tree_folds, settled_at}

agreed_case : (mode : Mode) (x : Atom) (ca cb : Comparison) → is_blocked (Some x) ≡ false → first_case mode (Some x) (Some x) ca cb ≡ verdicts.Agreed
agreed_case mode x ca cb free =
    ap (λ b. cond (b || b) (cond (holds_tracked (Some x) || holds_tracked (Some x)) verdicts.Blocked verdicts.Left) (cond (same_there (Some x) (Some x)) verdicts.Agreed (by_mode mode true ca cb))) free
    ∙ ap (λ b. cond b verdicts.Agreed (by_mode mode true ca cb)) (same_itself (Some x))

keeps_case : (x : Atom) (ca cb : Comparison) → is_blocked (Some x) ≡ false → cb.less ≡ false → first_case OneWaySafe None (Some x) ca cb ≡ verdicts.BetaKeeps
keeps_case x ca cb free apart =
    ap (λ b. cond b (cond (holds_tracked (Some x)) verdicts.Blocked verdicts.Left) (by_mode OneWaySafe false ca cb)) free
    ∙ ap (λ b. cond b verdicts.BetaTakes verdicts.BetaKeeps) apart

-- Nothing is left to do at a path but to drop what neither side holds.
record Quiet (mode : Mode) (t : Trees) (p : Names) : Type 0 where
  change : change_at mode t p ≡ None
  conflict : conflict_at mode t p ≡ None
  line : IfSome (line_at mode t p) (DropsNothing t)

module _ (mode : Mode) (t : Trees) (p : Names) where
  quiet : (v : Verdict) → verdict mode t p ≡ v → change_by t p v ≡ None → conflict_by t p v ≡ None → IfSome (line_of p (trees.get t.ancestor p) (trees.get t.alpha p) v) (DropsNothing t) → Quiet mode t p
  unfolding change_at conflict_at line_at
  quiet v is change conflict line = record {
    change = ap (change_by t p) is ∙ change;
    conflict = ap (conflict_by t p) is ∙ conflict;
    line = subst (λ v. IfSome (line_of p (trees.get t.ancestor p) (trees.get t.alpha p) v) (DropsNothing t)) (sym is) line;
  }

  gone : trees.get t.alpha p ≡ None → trees.get t.beta p ≡ None → Quiet mode t p
  gone none_a none_b =
      quiet verdicts.Gone (λ i. first_case mode (none_a i) (none_b i) (comparison t t.alpha p) (comparison t t.beta p)) refl refl (drops (is_some (trees.get t.ancestor p)))
    where
      drops : (b : Bool) → IfSome (cond b (Some (lines.Drop p)) None) (DropsNothing t)
      drops true = (none_a, none_b)
      drops false = tt

  agreed : (x : Atom) → trees.get t.alpha p ≡ Some x → trees.get t.beta p ≡ Some x → trees.get t.ancestor p ≡ Some x → is_blocked (Some x) ≡ false → Quiet mode t p
  agreed x a b o free =
      quiet verdicts.Agreed ((λ i. first_case mode (a i) (b i) (comparison t t.alpha p) (comparison t t.beta p)) ∙ agreed_case mode x (comparison t t.alpha p) (comparison t t.beta p) free) refl refl
      (subst (λ (l : Option AncestorLine). IfSome l (DropsNothing t))
      (sym ((λ i. cond (same_there (o i) (a i)) None (option_map (lines.Set p) (a i))) ∙ ap (λ b. cond b None (Some (lines.Set p x))) (same_itself (Some x)))) tt)

-- what beta keeps of its own is not the ancestor's
not_less : (t : Trees) (p : Names) (x : Atom) → trees.get t.beta p ≡ Some x → trees.get t.ancestor p ≡ None → is_blocked (Some x) ≡ false → less t t.beta p ≡ false
not_less t p x b o free = false_from_ne_true (less t t.beta p) (λ h.
    by (less_is (compared (trees.get t.beta p)) (trees.get t.ancestor p) (less_each t t.beta p p h (has_betas t p (ap is_some b)) (under_itself p))))
  where
    is : compared (trees.get t.beta p) ≡ Some x
    is = ap compared b ∙ compared_is (Some x) free

    by : (compared (trees.get t.beta p) ≡ None) ⊎ (compared (trees.get t.beta p) ≡ trees.get t.ancestor p) → ⊥
    by (inl none) = none_is_not_some x (sym none ∙ is)
    by (inr same) = none_is_not_some x (sym (same ∙ o) ∙ is)

keeps : (mode : Mode) (t : Trees) (p : Names) (x : Atom) → mode ≡ OneWaySafe → trees.get t.alpha p ≡ None → trees.get t.beta p ≡ Some x → trees.get t.ancestor p ≡ None → is_blocked (Some x) ≡ false → Quiet mode t p
keeps mode t p x one a b o free =
    quiet mode t p verdicts.BetaKeeps
    ((λ i. first_case (one i) (a i) (b i) (comparison t t.alpha p) (comparison t t.beta p)) ∙ keeps_case x (comparison t t.alpha p) (comparison t t.beta p) free (not_less t p x b o free)) refl refl
    (subst (λ (l : Option AncestorLine). IfSome l (DropsNothing t)) (sym (ap (λ (o : Option Atom). cond (is_some o) (Some (lines.Drop p)) None) o)) tt)

settled_is_quiet : (mode : Mode) (t : Trees) (p : Names) → Settled mode (trees.get t.alpha p) (trees.get t.beta p) (trees.get t.ancestor p) → Quiet mode t p
settled_is_quiet mode t p s = by s.ends
  where
    both : (o : Option Atom) → trees.get t.alpha p ≡ o → trees.get t.alpha p ≡ trees.get t.beta p → ((x : Atom) → trees.get t.alpha p ≡ Some x → trees.get t.ancestor p ≡ Some x) → Quiet mode t p
    both None is same stands = gone mode t p is (sym same ∙ is)
    both (Some x) is same stands = agreed mode t p x is (sym same ∙ is) (stands x is) (ap is_blocked (sym is) ∙ s.alpha_free)

    one : (o : Option Atom) → trees.get t.beta p ≡ o → mode ≡ OneWaySafe → trees.get t.alpha p ≡ None → trees.get t.ancestor p ≡ None → Quiet mode t p
    one None is safe a o = gone mode t p a is
    one (Some x) is safe a o = keeps mode t p x safe a is o (ap is_blocked (sym is) ∙ s.beta_free)

    by : Ends mode (trees.get t.alpha p) (trees.get t.beta p) (trees.get t.ancestor p) → Quiet mode t p
    by (met same stands) = both (trees.get t.alpha p) refl same stands
    by (kept safe a o) = one (trees.get t.beta p) refl safe a o

pub each_settles : (mode : Mode) → EachSettles mode
each_settles mode t closed ancestor alpha beta peaceful =
    let after = tree mode t closed ancestor alpha beta peaceful in
    let next : Trees = settled t (plan_of mode t) after in
    let quiet_at : (p : Names) → Quiet mode next p = λ p. settled_is_quiet mode next p (settled_at mode t closed ancestor alpha beta peaceful p) in
    record {
      tree = after;
      folds = tree_folds mode t closed ancestor alpha beta peaceful;
      changes = none_kept (change_at mode next) (λ p. (quiet_at p).change) (points_of next);
      conflicts = none_kept (conflict_at mode next) (λ p. (quiet_at p).conflict) (points_of next);
      lines = all_kept (DropsNothing next) (line_at mode next) (λ p. (quiet_at p).line) (points_of next);
    }
