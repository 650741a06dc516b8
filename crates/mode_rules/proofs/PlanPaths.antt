-- How the paths of a plan lie to one another.
use Rattle.std.proofs.Common.{◌≡◌, Bool, true, false, cond, refl, sym, ap, ◌∙◌, Option, Some, None}
use Rattle.std.specs.FinMap as trees
use Rattle.std.specs.Option.{is_some, option_map}
use Rattle.std.specs.declared.cmp.Ordering.TheVariants.{Less, Equal}
use Rattle.std.proofs.lemmas.Bool.{and_parts, false_from_ne_true}
use Rattle.std.proofs.lemmas.Cmp.{tied_itself}
use Rattle.finite_maps.proofs.Constructors.{none_is_not_some, some_same}
use Rattle.sync_path.specs.Path.{path_cmp, is_under}
use Rattle.sync_path.specs.PathOrder.{path_cmp_total}
use Rattle.entry_tree.specs.Tree.{Names}
use Rattle.entry_tree.specs.declared.atom.Atom.{Atom}
use Rattle.entry_tree.specs.declared.atom.Atom.TheVariants.{Dir}
use Rattle.mode_rules.specs.declared.ancestor_line.AncestorLine.{AncestorLine}
use Rattle.mode_rules.specs.declared.ancestor_line.AncestorLine.TheVariants as lines
use Rattle.mode_rules.specs.declared.change.Change.{Change}
use Rattle.mode_rules.specs.declared.conflict.Conflict.{Conflict}
use Rattle.mode_rules.specs.declared.mode.Mode.{Mode}
use Rattle.mode_rules.specs.declared.verdict.Verdict.{Verdict}
use Rattle.mode_rules.specs.declared.verdict.Verdict.TheVariants as verdicts
use Rattle.mode_rules.specs.Plans.{change_at, change_by, line_at, line_of, conflict_at, conflict_by, plan_of}
use Rattle.mode_rules.specs.PointLaws.{IsBefore, IsApart, IsClearOf, AreApart, line_path}
use Rattle.mode_rules.specs.Trees.{Trees, paths_of, is_point, holds_folder, same_there}
use Rattle.mode_rules.specs.Verdicts.{verdict}
use Rattle.mode_rules.proofs.Below.{under_both, folders}
use Rattle.mode_rules.proofs.Cases.{folder_there}
use Rattle.mode_rules.proofs.Deciding.{IsAmong, each_among, paths_sorted, point_lets, folder_agrees}
use Rattle.mode_rules.proofs.ListLaws.{pairs_in, crosses_in}

-- What is known of a path at which a change is made or a conflict reported: both sides don't agree there, and no line is written.
pub record Stops (mode : Mode) (t : Trees) (p : Names) : Type 0 where
  pub differs : verdict mode t p ≡ verdicts.Agreed → ⊥
  pub unwritten : line_at mode t p ≡ None

abbrev Unwritten : Trees → Names → Verdict → Type 0
Unwritten t p v = (v ≡ verdicts.Agreed → ⊥) × (line_of p (trees.get t.ancestor p) (trees.get t.alpha p) v ≡ None)

module _ (t : Trees) (p : Names) where
  change_stops : (v : Verdict) (c : Change) → change_by t p v ≡ Some c → (c.at ≡ p) × Unwritten t p v
  change_stops verdicts.AlphaTakes c e = (ap (λ (x : Change). x.at) (sym (some_same _ c e)), ((λ is. cc), refl))
  change_stops verdicts.BetaTakes c e = (ap (λ (x : Change). x.at) (sym (some_same _ c e)), ((λ is. cc), refl))
  change_stops verdicts.AlphaEmptied c e = (ap (λ (x : Change). x.at) (sym (some_same _ c e)), ((λ is. cc), refl))
  change_stops verdicts.BetaEmptied c e = (ap (λ (x : Change). x.at) (sym (some_same _ c e)), ((λ is. cc), refl))
  change_stops verdicts.Left c e = absurd (none_is_not_some c e)
  change_stops verdicts.Blocked c e = absurd (none_is_not_some c e)
  change_stops verdicts.Gone c e = absurd (none_is_not_some c e)
  change_stops verdicts.Agreed c e = absurd (none_is_not_some c e)
  change_stops verdicts.BetaKeeps c e = absurd (none_is_not_some c e)
  change_stops verdicts.Both c e = absurd (none_is_not_some c e)

  conflict_stops : (v : Verdict) (f : Conflict) → conflict_by t p v ≡ Some f → (f.at ≡ p) × Unwritten t p v
  conflict_stops verdicts.Blocked f e = (ap (λ (x : Conflict). x.at) (sym (some_same _ f e)), ((λ is. cc), refl))
  conflict_stops verdicts.Both f e = (ap (λ (x : Conflict). x.at) (sym (some_same _ f e)), ((λ is. cc), refl))
  conflict_stops verdicts.Left f e = absurd (none_is_not_some f e)
  conflict_stops verdicts.Gone f e = absurd (none_is_not_some f e)
  conflict_stops verdicts.Agreed f e = absurd (none_is_not_some f e)
  conflict_stops verdicts.BetaKeeps f e = absurd (none_is_not_some f e)
  conflict_stops verdicts.AlphaTakes f e = absurd (none_is_not_some f e)
  conflict_stops verdicts.BetaTakes f e = absurd (none_is_not_some f e)
  conflict_stops verdicts.AlphaEmptied f e = absurd (none_is_not_some f e)
  conflict_stops verdicts.BetaEmptied f e = absurd (none_is_not_some f e)

-- no change is made where a conflict is reported
one_kind_by : (t : Trees) (p : Names) (v : Verdict) (c : Change) (f : Conflict) → change_by t p v ≡ Some c → conflict_by t p v ≡ Some f → ⊥
one_kind_by t p verdicts.Blocked c f e h = none_is_not_some c e
one_kind_by t p verdicts.Both c f e h = none_is_not_some c e
one_kind_by t p verdicts.Left c f e h = none_is_not_some c e
one_kind_by t p verdicts.Gone c f e h = none_is_not_some c e
one_kind_by t p verdicts.Agreed c f e h = none_is_not_some c e
one_kind_by t p verdicts.BetaKeeps c f e h = none_is_not_some c e
one_kind_by t p verdicts.AlphaTakes c f e h = none_is_not_some f h
one_kind_by t p verdicts.BetaTakes c f e h = none_is_not_some f h
one_kind_by t p verdicts.AlphaEmptied c f e h = none_is_not_some f h
one_kind_by t p verdicts.BetaEmptied c f e h = none_is_not_some f h

drop_is : (p : Names) (b : Bool) (l : AncestorLine) → cond b (Some (lines.Drop p)) None ≡ Some l → l ≡ lines.Drop p
drop_is p true l e = sym (some_same _ l e)
drop_is p false l e = absurd (none_is_not_some l e)

set_is : (p : Names) (b : Bool) (a : Option Atom) (l : AncestorLine) → cond b None (option_map (lines.Set p) a) ≡ Some l → (x : Atom) × (a ≡ Some x) × (l ≡ lines.Set p x)
set_is p true a l e = absurd (none_is_not_some l e)
set_is p false None l e = absurd (none_is_not_some l e)
set_is p false (Some x) l e = (x, refl, sym (some_same _ l e))

pub line_is_at : (p : Names) (o a : Option Atom) (v : Verdict) (l : AncestorLine) → line_of p o a v ≡ Some l → line_path l ≡ p
line_is_at p o a verdicts.Gone l e = ap line_path (drop_is p (is_some o) l e)
line_is_at p o a verdicts.BetaKeeps l e = ap line_path (drop_is p (is_some o) l e)
line_is_at p o a verdicts.Agreed l e = ap line_path (set_is p (same_there o a) a l e).2
line_is_at p o a verdicts.Left l e = absurd (none_is_not_some l e)
line_is_at p o a verdicts.Blocked l e = absurd (none_is_not_some l e)
line_is_at p o a verdicts.AlphaTakes l e = absurd (none_is_not_some l e)
line_is_at p o a verdicts.BetaTakes l e = absurd (none_is_not_some l e)
line_is_at p o a verdicts.AlphaEmptied l e = absurd (none_is_not_some l e)
line_is_at p o a verdicts.BetaEmptied l e = absurd (none_is_not_some l e)
line_is_at p o a verdicts.Both l e = absurd (none_is_not_some l e)

-- the line of what both sides agree on sets it
pub agreed_line : (p : Names) (o a : Option Atom) (l : AncestorLine) → line_of p o a verdicts.Agreed ≡ Some l → (x : Atom) × (a ≡ Some x) × (l ≡ lines.Set p x)
agreed_line p o a l e = set_is p (same_there o a) a l e

module _ (mode : Mode) (t : Trees) where
  pub change_stop : (p : Names) (c : Change) → change_at mode t p ≡ Some c → (c.at ≡ p) × Stops mode t p
  unfolding change_at line_at
  change_stop p c e = let h = change_stops t p (verdict mode t p) c e in (h.0, record { differs = h.1.0; unwritten = h.1.1 })

  pub conflict_stop : (p : Names) (f : Conflict) → conflict_at mode t p ≡ Some f → (f.at ≡ p) × Stops mode t p
  unfolding conflict_at line_at
  conflict_stop p f e = let h = conflict_stops t p (verdict mode t p) f e in (h.0, record { differs = h.1.0; unwritten = h.1.1 })

  pub line_there : (p : Names) (l : AncestorLine) → line_at mode t p ≡ Some l → line_path l ≡ p
  unfolding line_at
  line_there p l e = line_is_at p _ _ (verdict mode t p) l e

  -- the line of a folder on both sides sets a folder
  pub folder_line : (p : Names) (l : AncestorLine) → folders t p ≡ true → line_at mode t p ≡ Some l → l ≡ lines.Set p Dir
  unfolding line_at
  folder_line p l folder e =
      let sets = agreed_line p (trees.get t.ancestor p) (trees.get t.alpha p) l (ap (line_of p (trees.get t.ancestor p) (trees.get t.alpha p)) (sym (folder_agrees t mode p folder)) ∙ e) in
      let dir : Some sets.0 ≡ Some Dir = sym sets.1 ∙ folder_there (trees.get t.alpha p) (and_parts (holds_folder (trees.get t.alpha p)) (holds_folder (trees.get t.beta p)) folder).0 in
      sets.2 ∙ ap (lines.Set p) (some_same _ _ dir)

  not_under : (p q : Names) → is_point t p ≡ true → IsAmong t q → Stops mode t q → (p ≡ q → ⊥) → is_under p q ≡ false
  not_under p q point has stops apart = false_from_ne_true (is_under p q) (λ under. by under (is_under q p) refl)
    where
      by : is_under p q ≡ true → (b : Bool) → is_under q p ≡ b → ⊥
      by under true e = apart (under_both p q under e)
      by under false e = stops.differs (folder_agrees t mode q (point_lets t p q point has under e))

  stops_apart : (p q : Names) → IsAmong t p → IsAmong t q → is_point t p ≡ true → is_point t q ≡ true → Stops mode t p → Stops mode t q → (p ≡ q → ⊥) → IsApart p q
  stops_apart p q has too point also stops halts apart =
      record { first = not_under p q point too halts apart; second = not_under q p also has stops (λ e. apart (sym e)) }

  clear_of : (p q : Names) → IsAmong t p → IsAmong t q → is_point t p ≡ true → is_point t q ≡ true → (l : AncestorLine) → line_at mode t p ≡ Some l → Stops mode t q → IsClearOf l q
  clear_of p q has too point also l is stops =
      let here : line_path l ≡ p = line_there p l is in
      let other : p ≡ q → ⊥ = λ same. none_is_not_some l (sym stops.unwritten ∙ ap (line_at mode t) (sym same) ∙ is) in
      record {
        outside = ap (λ x. is_under x q) here ∙ not_under p q point too stops other;
        above = λ h. above other (sym (ap (is_under q) here) ∙ h) (is_under p q) refl ∙ ap (λ x. lines.Set x Dir) (sym here);
      }
    where
      above : (p ≡ q → ⊥) → is_under q p ≡ true → (b : Bool) → is_under p q ≡ b → l ≡ lines.Set p Dir
      above other under true e = absurd (other (under_both p q e under))
      above other under false e = folder_line p l (point_lets t q p also has under e) is

  before_apart : (p q : Names) → IsBefore p q → p ≡ q → ⊥
  before_apart p q less same = let no : Equal ≡ Less = sym (tied_itself path_cmp_total p) ∙ ap (path_cmp p) same ∙ less in cc

  pub one_kind : (p q : Names) (c : Change) (f : Conflict) → change_at mode t p ≡ Some c → conflict_at mode t q ≡ Some f → p ≡ q → ⊥
  unfolding change_at conflict_at
  one_kind p q c f e h same = one_kind_by t p (verdict mode t p) c f e (ap (conflict_at mode t) same ∙ h)

  pub keeps_apart : AreApart (plan_of mode t)
  keeps_apart = record {
    changes_rise = pairs_in (IsAmong t) (is_point t) (change_at mode t) _ (λ p q _ _ _ _ less c d e f. rise p q c.at d.at less (change_stop p c e).0 (change_stop q d f).0) (paths_of t) (each_among t) (paths_sorted t);
    lines_rise = pairs_in (IsAmong t) (is_point t) (line_at mode t) _ (λ p q _ _ _ _ less l m e f. rise p q (line_path l) (line_path m) less (line_there p l e) (line_there q m f)) (paths_of t) (each_among t) (paths_sorted t);
    conflicts_rise = pairs_in (IsAmong t) (is_point t) (conflict_at mode t) _ (λ p q _ _ _ _ less c d e f. rise p q c.at d.at less (conflict_stop p c e).0 (conflict_stop q d f).0) (paths_of t) (each_among t) (paths_sorted t);
    changes_apart = pairs_in (IsAmong t) (is_point t) (change_at mode t) _ (λ p q has too point also less c d e f.
        let x = change_stop p c e in let y = change_stop q d f in
        apart p q c.at d.at x.0 y.0 (stops_apart p q has too point also x.1 y.1 (before_apart p q less))) (paths_of t) (each_among t) (paths_sorted t);
    conflicts_apart = pairs_in (IsAmong t) (is_point t) (conflict_at mode t) _ (λ p q has too point also less c d e f.
        let x = conflict_stop p c e in let y = conflict_stop q d f in
        apart p q c.at d.at x.0 y.0 (stops_apart p q has too point also x.1 y.1 (before_apart p q less))) (paths_of t) (each_among t) (paths_sorted t);
    both_apart = crosses_in (IsAmong t) (is_point t) (change_at mode t) (conflict_at mode t) _ (λ p q has too point also c f e h.
        let x = change_stop p c e in let y = conflict_stop q f h in
        apart p q c.at f.at x.0 y.0 (stops_apart p q has too point also x.1 y.1 (one_kind p q c f e h))) (paths_of t) (each_among t);
    lines_clear_changes = crosses_in (IsAmong t) (is_point t) (line_at mode t) (change_at mode t) _ (λ p q has too point also l c e h.
        let y = change_stop q c h in clear q c.at l y.0 (clear_of p q has too point also l e y.1)) (paths_of t) (each_among t);
    lines_clear_conflicts = crosses_in (IsAmong t) (is_point t) (line_at mode t) (conflict_at mode t) _ (λ p q has too point also l f e h.
        let y = conflict_stop q f h in clear q f.at l y.0 (clear_of p q has too point also l e y.1)) (paths_of t) (each_among t);
  }
    where
      rise : (p q x y : Names) → IsBefore p q → x ≡ p → y ≡ q → IsBefore x y
      rise p q x y less e f = (λ i. path_cmp (e i) (f i)) ∙ less

      apart : (p q x y : Names) → x ≡ p → y ≡ q → IsApart p q → IsApart x y
      apart p q x y e f h = record { first = (λ i. is_under (e i) (f i)) ∙ h.first; second = (λ i. is_under (f i) (e i)) ∙ h.second }

      clear : (q y : Names) (l : AncestorLine) → y ≡ q → IsClearOf l q → IsClearOf l y
      clear q y l f h = record { outside = ap (is_under (line_path l)) f ∙ h.outside; above = λ u. h.above (sym (ap (λ x. is_under x (line_path l)) f) ∙ u) }
