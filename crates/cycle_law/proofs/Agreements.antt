-- What an agreed line sets, both sides held.
use Rattle.std.proofs.Common.{◌≡◌, Bool, true, false, cond, refl, sym, subst, ◌∙◌, Option, Some, None, is_some}
use Rattle.std.specs.FinMap as map
use Rattle.std.specs.List.{AllByRecursion}
use Rattle.finite_maps.proofs.Constructors.{none_is_not_some, some_same}
use Rattle.entry_tree.specs.Tree.{Names}
use Rattle.entry_tree.specs.declared.atom.Atom.{Atom}
use Rattle.mode_rules.proofs.Cases.{agreed_is}
use Rattle.mode_rules.proofs.ListLaws.{kept_in}
use Rattle.mode_rules.proofs.PlanPaths.{agreed_line}
use Rattle.mode_rules.specs.Plans.{line_at, line_of, plan_of}
use Rattle.mode_rules.specs.Trees.{Trees, is_point, paths_of}
use Rattle.mode_rules.specs.Verdicts.{verdict, comparison}
use Rattle.mode_rules.specs.declared.ancestor_line.AncestorLine.{AncestorLine}
use Rattle.mode_rules.specs.declared.ancestor_line.AncestorLine.TheVariants.{Set, Drop}
use Rattle.mode_rules.specs.declared.mode.Mode.{Mode}
use Rattle.mode_rules.specs.declared.verdict.Verdict.{Verdict}
use Rattle.mode_rules.specs.declared.verdict.Verdict.TheVariants as verdicts
use Rattle.cycle_law.proofs.Lists.{all_each}

-- both hold at a path what a line sets there
abbrev pub AreSet : (Names → Option Atom) → (Names → Option Atom) → AncestorLine → Type 0
AreSet alpha beta (Set p a) = (alpha p ≡ Some a) × (beta p ≡ Some a)
AreSet alpha beta (Drop p) = Unit {0}

module _ (mode : Mode) (t : Trees) where
  abbrev Both : AncestorLine → Type 0
  Both = AreSet (map.get t.alpha) (map.get t.beta)

  drop_sets : (p : Names) (b : Bool) (line : AncestorLine) → cond b (Some (Drop p)) None ≡ Some line → Both line
  drop_sets p true line is = subst Both (some_same _ line is) tt
  drop_sets p false line is = absurd (none_is_not_some line is)

  line_by : (p : Names) (v : Verdict) → verdict mode t p ≡ v → (line : AncestorLine) → line_of p (map.get t.ancestor p) (map.get t.alpha p) v ≡ Some line → Both line
  line_by p verdicts.Gone v line is = drop_sets p (is_some (map.get t.ancestor p)) line is
  line_by p verdicts.BetaKeeps v line is = drop_sets p (is_some (map.get t.ancestor p)) line is
  line_by p verdicts.Agreed v line is =
      let sets = agreed_line p (map.get t.ancestor p) (map.get t.alpha p) line is in
      let same = agreed_is mode (map.get t.alpha p) (map.get t.beta p) (comparison t t.alpha p) (comparison t t.beta p) v in
      subst Both (sym sets.2) (sets.1, sym same.0 ∙ sets.1)
  line_by p verdicts.Left v line is = absurd (none_is_not_some line is)
  line_by p verdicts.Blocked v line is = absurd (none_is_not_some line is)
  line_by p verdicts.AlphaTakes v line is = absurd (none_is_not_some line is)
  line_by p verdicts.BetaTakes v line is = absurd (none_is_not_some line is)
  line_by p verdicts.AlphaEmptied v line is = absurd (none_is_not_some line is)
  line_by p verdicts.BetaEmptied v line is = absurd (none_is_not_some line is)
  line_by p verdicts.Both v line is = absurd (none_is_not_some line is)

  agreed_at : (p : Names) (line : AncestorLine) → line_at mode t p ≡ Some line → Both line
  unfolding line_at
  agreed_at p line is = line_by p (verdict mode t p) refl line is

  pub all_agreed : AllByRecursion Both (plan_of mode t).agreed
  all_agreed = kept_in (λ p. Unit {0}) (is_point t) (line_at mode t) Both (λ p u point line is. agreed_at p line is) (paths_of t) (all_each (λ p. Unit {0}) (λ p. tt) (paths_of t))
