-- Where both sides agree with the ancestor, there is nothing to do.
use Rattle.std.proofs.Common.{◌≡◌, Bool, true, false, cond, not, ◌||◌, List, [], ◌∷◌, length, refl, sym, ap, ◌∙◌, inl, inr, Option, Some, None}
use Rattle.std.specs.Prelude.{◌&&◌, ◌⊎◌, nat_le}
use Rattle.std.specs.FinMap as trees
use Rattle.std.specs.FinMap.{find}
use Rattle.std.specs.List.{filter, filter_map, list_any, AllByRecursion}
use Rattle.std.specs.List.Sorted.{IsStrictlySortedBy}
use Rattle.std.specs.Map.{keys_of}
use Rattle.std.specs.Option.{is_some, option_map}
use Rattle.std.specs.Ordering.{is_eq, eq_by_cmp, ordering_reverse}
use Rattle.std.specs.declared.cmp.Ordering.TheVariants.{Less}
use Rattle.std.proofs.lemmas.Bool.{and_parts, or_cases, or_left, or_right}
use Rattle.std.proofs.lemmas.Cmp.{tied_itself}
use Rattle.std.proofs.lemmas.Map.Keys.{sorted_head, sorted_tail}
use Rattle.finite_maps.proofs.Constructors.{none_is_not_some, some_same}
use Rattle.finite_maps.proofs.SortedLists.{sorted-from_is_sorted}
use Rattle.sync_path.specs.Path.{path_cmp}
use Rattle.sync_path.specs.PathOrder.{path_cmp_total}
use Rattle.entry_tree.specs.Tree.{Names, ByPath}
use Rattle.entry_tree.specs.declared.atom.Atom.{Atom}
use Rattle.entry_tree.specs.declared.atom.Atom.TheVariants.{Dir, File, Link, Untracked, Problem}
use Rattle.entry_tree.proofs.Trees.{tie_is}
use Rattle.mode_rules.specs.declared.ancestor_line.AncestorLine.TheVariants as lines
use Rattle.mode_rules.specs.declared.halt.Halt.TheVariants as halts
use Rattle.mode_rules.specs.declared.mode.Mode.{Mode}
use Rattle.mode_rules.specs.declared.verdict.Verdict.{Verdict}
use Rattle.mode_rules.specs.declared.verdict.Verdict.TheVariants as verdicts
use Rattle.mode_rules.specs.Halts.{is_at_top, top_of, counts, is_emptied, is_two_way, one_of, halt_of}
use Rattle.mode_rules.specs.NothingLeft.{AgreesWith, IsNothing}
use Rattle.mode_rules.specs.Plans.{points_of, change_at, change_by, line_at, line_of, conflict_at, conflict_by, plan_of}
use Rattle.mode_rules.specs.Trees.{Trees, compared, is_blocked, holds_tracked, holds_folder, same_there}
use Rattle.mode_rules.specs.Verdicts.{comparison, verdict}
use Rattle.mode_rules.proofs.Cases.{by_case, agreed_is, compared_is, both_the_same, same_itself}
use Rattle.mode_rules.proofs.PlanLaws.{none_kept}

-- what is blocked isn't tracked on the other side either, where both compare alike
blocked_alike : (a b : Option Atom) → compared a ≡ compared b → is_blocked a ≡ true → holds_tracked b ≡ false
blocked_alike None b e h = absurd (cc)
blocked_alike (Some Dir) b e h = absurd (cc)
blocked_alike (Some (File digest executable)) b e h = absurd (cc)
blocked_alike (Some (Link text)) b e h = absurd (cc)
blocked_alike (Some Untracked) None e h = refl
blocked_alike (Some Untracked) (Some Dir) e h = absurd (none_is_not_some Dir e)
blocked_alike (Some Untracked) (Some (File digest executable)) e h = absurd (none_is_not_some _ e)
blocked_alike (Some Untracked) (Some (Link text)) e h = absurd (none_is_not_some _ e)
blocked_alike (Some Untracked) (Some Untracked) e h = refl
blocked_alike (Some Untracked) (Some (Problem kind)) e h = refl
blocked_alike (Some (Problem k)) None e h = refl
blocked_alike (Some (Problem k)) (Some Dir) e h = let no : Problem k ≡ Dir = some_same _ _ e in absurd (cc)
blocked_alike (Some (Problem k)) (Some (File digest executable)) e h = let no : Problem k ≡ File digest executable = some_same _ _ e in absurd (cc)
blocked_alike (Some (Problem k)) (Some (Link text)) e h = let no : Problem k ≡ Link text = some_same _ _ e in absurd (cc)
blocked_alike (Some (Problem k)) (Some Untracked) e h = refl
blocked_alike (Some (Problem k)) (Some (Problem kind)) e h = refl

none_tracked : (a b : Option Atom) → compared a ≡ compared b → (is_blocked a || is_blocked b) ≡ true → (holds_tracked a || holds_tracked b) ≡ true → ⊥
none_tracked a b e stops tracked = by (or_cases (is_blocked a) (is_blocked b) stops)
  where
    neither : holds_tracked a ≡ false → holds_tracked b ≡ false → ⊥
    neither x y = let no : true ≡ false = sym tracked ∙ (λ i. x i || y i) in cc

    by : (is_blocked a ≡ true) ⊎ (is_blocked b ≡ true) → ⊥
    by (inl of_a) = neither (blocked_alike a a refl of_a) (blocked_alike a b e of_a)
    by (inr of_b) = neither (blocked_alike b a (sym e) of_b) (blocked_alike b b refl of_b)

-- what is decided where both sides agree with the ancestor
abbrev Quiet : Option Atom → Verdict → Type 0
Quiet o v = (v ≡ verdicts.Left) ⊎ (((v ≡ verdicts.Gone) × (o ≡ None)) ⊎ (v ≡ verdicts.Agreed))

module _ (mode : Mode) (t : Trees) (with_alpha : AgreesWith t.ancestor t.alpha) (with_beta : AgreesWith t.ancestor t.beta) where
  quiet : (p : Names) → Quiet (trees.get t.ancestor p) (verdict mode t p)
  quiet p =
      let a = trees.get t.alpha p in
      let b = trees.get t.beta p in
      let o = trees.get t.ancestor p in
      by_case (Quiet o) mode a b (comparison t t.alpha p) (comparison t t.beta p)
      (λ tracked stops. absurd (none_tracked a b (with_alpha p ∙ sym (with_beta p)) stops tracked))
      (λ _. inl refl)
      (λ none_a _. inr (inl (refl, sym (with_alpha p) ∙ ap compared (none_there a none_a))))
      (λ _. inr (inr refl))
      (λ free_a free_b some apart. absurd (both_the_same a b o (record { alpha_free = free_a; beta_free = free_b; some = some; apart = apart }) (with_alpha p) (with_beta p)))
    where
      none_there : (x : Option Atom) → is_some x ≡ false → x ≡ None
      none_there None e = refl
      none_there (Some x) e = absurd (cc)

  no_change : (p : Names) → change_at mode t p ≡ None
  unfolding change_at
  no_change p = by (quiet p)
    where
      by : Quiet (trees.get t.ancestor p) (verdict mode t p) → change_by t p (verdict mode t p) ≡ None
      by (inl e) = ap (change_by t p) e
      by (inr (inl e)) = ap (change_by t p) e.0
      by (inr (inr e)) = ap (change_by t p) e

  no_conflict : (p : Names) → conflict_at mode t p ≡ None
  unfolding conflict_at
  no_conflict p = by (quiet p)
    where
      by : Quiet (trees.get t.ancestor p) (verdict mode t p) → conflict_by t p (verdict mode t p) ≡ None
      by (inl e) = ap (conflict_by t p) e
      by (inr (inl e)) = ap (conflict_by t p) e.0
      by (inr (inr e)) = ap (conflict_by t p) e

  no_line : (p : Names) → line_at mode t p ≡ None
  unfolding line_at
  no_line p = by (quiet p)
    where
      o : Option Atom
      o = trees.get t.ancestor p

      a : Option Atom
      a = trees.get t.alpha p

      same : verdict mode t p ≡ verdicts.Agreed → same_there o a ≡ true
      same e =
          let free = (agreed_is mode a (trees.get t.beta p) (comparison t t.alpha p) (comparison t t.beta p) e).1 in
          ap (λ x. same_there x a) (sym (with_alpha p) ∙ compared_is a free) ∙ same_itself a

      by : Quiet o (verdict mode t p) → line_of p o a (verdict mode t p) ≡ None
      by (inl e) = ap (line_of p o a) e
      by (inr (inl e)) = ap (line_of p o a) e.0 ∙ ap (λ x. line_of p x a verdicts.Gone) e.1
      by (inr (inr e)) = ap (line_of p o a) e ∙ ap (λ b. cond b None (option_map (lines.Set p) a)) (same e)

-- an entry of a list of entries, by what a look-up finds
record Found (test : Names → Atom → Bool) (es : List (Names × Atom)) : Type 0 where
  at : Names
  atom : Atom
  there : find path_cmp at es ≡ Some atom
  among : list_any (eq_by_cmp path_cmp at) (keys_of es) ≡ true
  passes : test at atom ≡ true

among_less : (k q : Names) (ks : List Names) → AllByRecursion (λ y. path_cmp k y ≡ Less) ks → list_any (eq_by_cmp path_cmp q) ks ≡ true → path_cmp k q ≡ Less
among_less k q [] all h = let no : false ≡ true = h in absurd (cc)
among_less k q (x ∷ ks) all h =
    by (or_cases (eq_by_cmp path_cmp q x) (list_any (eq_by_cmp path_cmp q) ks) h) (among_less k q ks all.1)
  where
    by : (eq_by_cmp path_cmp q x ≡ true) ⊎ (list_any (eq_by_cmp path_cmp q) ks ≡ true) → (list_any (eq_by_cmp path_cmp q) ks ≡ true → path_cmp k q ≡ Less) → path_cmp k q ≡ Less
    by (inl tie) more = ap (path_cmp k) (tie_is q x tie) ∙ all.0
    by (inr rest) more = more rest

-- the test of an entry at the top
abbrev top_counts : Names → Atom → Bool
top_counts q x = is_at_top q && counts x

abbrev any_top : List (Names × Atom) → Bool
any_top es = list_any (λ e. counts e.1) (filter (λ e. is_at_top e.0) es)

found_top : (es : List (Names × Atom)) → IsStrictlySortedBy path_cmp (keys_of es) → any_top es ≡ true → Found top_counts es
found_top [] sorted h = let no : false ≡ true = h in absurd (cc)
found_top (e ∷ es) sorted h = by (is_at_top e.0) refl h (found_top es (sorted_tail path_cmp e.0 (keys_of es) sorted))
  where
    here : is_at_top e.0 ≡ true → counts e.1 ≡ true → Found top_counts (e ∷ es)
    here top counted = record {
      at = e.0;
      atom = e.1;
      there = ap (λ b. cond b (Some e.1) (find path_cmp e.0 es)) (ap is_eq (tied_itself path_cmp_total e.0));
      among = or_left _ _ (ap is_eq (tied_itself path_cmp_total e.0));
      passes = λ i. top i && counted i;
    }

    later : Found top_counts es → Found top_counts (e ∷ es)
    later f =
        let less : path_cmp e.0 f.at ≡ Less = among_less e.0 f.at (keys_of es) (sorted_head path_cmp e.0 (keys_of es) sorted) f.among in
        let apart : eq_by_cmp path_cmp f.at e.0 ≡ false = ap is_eq (path_cmp_total.antisymm f.at e.0 ∙ ap ordering_reverse less) in
        record {
          at = f.at;
          atom = f.atom;
          there = ap (λ b. cond b (Some e.1) (find path_cmp f.at es)) apart ∙ f.there;
          among = or_right (eq_by_cmp path_cmp f.at e.0) _ f.among;
          passes = f.passes;
        }

    by : (b : Bool) → is_at_top e.0 ≡ b → list_any (λ x. counts x.1) (cond b (e ∷ filter (λ x. is_at_top x.0) es) (filter (λ x. is_at_top x.0) es)) ≡ true
        → (any_top es ≡ true → Found top_counts es) → Found top_counts (e ∷ es)
    by false top h more = later (more h)
    by true top h more = elim (or_cases (counts e.1) (any_top es) h) [ inl counted ↦ here top counted | inr rest ↦ later (more rest) ]

top_from_find : (es : List (Names × Atom)) (q : Names) (x : Atom) → find path_cmp q es ≡ Some x → is_at_top q ≡ true → counts x ≡ true → any_top es ≡ true
top_from_find [] q x is top counted = absurd (none_is_not_some x is)
top_from_find (e ∷ es) q x is top counted = by (eq_by_cmp path_cmp q e.0) refl is (λ rest. top_from_find es q x rest top counted)
  where
    skip : (b : Bool) → any_top es ≡ true → list_any (λ y. counts y.1) (cond b (e ∷ filter (λ y. is_at_top y.0) es) (filter (λ y. is_at_top y.0) es)) ≡ true
    skip true h = or_right (counts e.1) _ h
    skip false h = h

    by : (b : Bool) → eq_by_cmp path_cmp q e.0 ≡ b → cond b (Some e.1) (find path_cmp q es) ≡ Some x → (find path_cmp q es ≡ Some x → any_top es ≡ true) → any_top (e ∷ es) ≡ true
    by true tie here more =
        ap (λ b. list_any (λ y. counts y.1) (cond b (e ∷ filter (λ y. is_at_top y.0) es) (filter (λ y. is_at_top y.0) es))) (ap is_at_top (sym (tie_is q e.0 tie)) ∙ top)
        ∙ or_left (counts e.1) _ (ap counts (some_same e.1 x here) ∙ counted)
    by false tie rest more = skip (is_at_top e.0) (more rest)

-- what counts on one side at the top, counts on the other
top_alike : (x y : ByPath Atom) → ((q : Names) → compared (trees.get x q) ≡ compared (trees.get y q)) → any_top (trees.entries x) ≡ true → any_top (trees.entries y) ≡ true
top_alike x y alike h =
    let f = found_top (trees.entries x) (sorted-from_is_sorted path_cmp (trees.entries x) (trees.entries_sorted x)) h in
    let passes = and_parts (is_at_top f.at) (counts f.atom) f.passes in
    let there : is_some (compared (trees.get y f.at)) ≡ true =
    ap is_some (sym (alike f.at)) ∙ ap (λ o. is_some (compared o)) (trees.get-entries x f.at ∙ f.there) ∙ passes.1 in
    by f.at passes.0 (trees.get y f.at) refl there
  where
    by : (q : Names) → is_at_top q ≡ true → (o : Option Atom) → trees.get y q ≡ o → is_some (compared o) ≡ true → any_top (trees.entries y) ≡ true
    by q top None is none = let no : false ≡ true = none in absurd (cc)
    by q top (Some z) is counted = top_from_find (trees.entries y) q z (sym (trees.get-entries y q) ∙ is) top counted

both_ways : (a b : Bool) → (a ≡ true → b ≡ true) → (b ≡ true → a ≡ true) → a ≡ b
both_ways true b f g = sym (f refl)
both_ways false true f g = g refl
both_ways false false f g = refl

folder_compared : (o : Option Atom) → holds_folder (compared o) ≡ holds_folder o
folder_compared None = refl
folder_compared (Some Dir) = refl
folder_compared (Some (File digest executable)) = refl
folder_compared (Some (Link text)) = refl
folder_compared (Some Untracked) = refl
folder_compared (Some (Problem kind)) = refl

emptied_alike : (x y : ByPath Atom) → ((q : Names) → compared (trees.get x q) ≡ compared (trees.get y q)) → is_emptied x ≡ is_emptied y
emptied_alike x y alike =
    let folder : holds_folder (trees.get x []) ≡ holds_folder (trees.get y []) = sym (folder_compared (trees.get x [])) ∙ ap holds_folder (alike []) ∙ folder_compared (trees.get y []) in
    let tops : any_top (trees.entries x) ≡ any_top (trees.entries y) = both_ways _ _ (top_alike x y alike) (top_alike y x (λ q. sym (alike q))) in
    λ i. folder i && not (tops i)

not_one : (b : Bool) → one_of b b ≡ false
not_one true = refl
not_one false = refl

and_nothing : (a b : Bool) → (a && b && false) ≡ false
and_nothing true true = refl
and_nothing true false = refl
and_nothing false true = refl
and_nothing false false = refl

no_halt : (mode : Mode) (t : Trees) → ((q : Names) → compared (trees.get t.alpha q) ≡ compared (trees.get t.beta q)) → halt_of mode t [] ≡ None
no_halt mode t alike =
    ap (λ b. cond b (Some halts.RootEmptied) None)
    (ap (λ b. is_two_way mode && nat_le 2 (length (top_of t.ancestor)) && b) (ap (one_of (is_emptied t.alpha)) (sym (emptied_alike t.alpha t.beta alike)) ∙ not_one (is_emptied t.alpha))
    ∙ and_nothing (is_two_way mode) (nat_le 2 (length (top_of t.ancestor))))

pub nothing_left : (mode : Mode) (t : Trees) → AgreesWith t.ancestor t.alpha → AgreesWith t.ancestor t.beta → IsNothing (plan_of mode t)
nothing_left mode t with_alpha with_beta =
    let none : filter_map (change_at mode t) (points_of t) ≡ [] = none_kept _ (no_change mode t with_alpha with_beta) (points_of t) in
    record {
      halt = ap (halt_of mode t) none ∙ no_halt mode t (λ q. with_alpha q ∙ sym (with_beta q));
      changes = none;
      agreed = none_kept _ (no_line mode t with_alpha with_beta) (points_of t);
      conflicts = none_kept _ (no_conflict mode t with_alpha with_beta) (points_of t);
    }
