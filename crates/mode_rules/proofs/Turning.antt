-- The table in two-way-safe with alpha and beta in each other's place.
use Rattle.std.proofs.Common.{◌≡◌, Bool, true, false, cond, not, ◌||◌, List, [], ◌∷◌, ◌++◌, map, length, refl, sym, ap, ap₂, ◌∙◌, inl, inr, Option, Some, None}
use Rattle.std.specs.Prelude.{◌&&◌, nat_le}
use Rattle.std.specs.FinMap as trees
use Rattle.std.specs.List.{filter, filter_map, cons_option, list_all, list_any}
use Rattle.std.specs.Option.{is_some, option_map}
use Rattle.std.specs.Ordering.{eq_by_cmp}
use Rattle.std.proofs.lemmas.Bool.{or_cases, or_parts}
use Rattle.std.proofs.lemmas.List.Elements.{filter_agree}
use Rattle.sync_path.specs.Path.{path_cmp, is_under, is_below}
use Rattle.entry_tree.specs.Tree.{Names, ByPath}
use Rattle.entry_tree.specs.declared.atom.Atom.{Atom}
use Rattle.entry_tree.proofs.Paths.{under_itself}
use Rattle.mode_rules.specs.declared.conflict.Reason.{Reason}
use Rattle.mode_rules.specs.declared.conflict.Reason.TheVariants as reasons
use Rattle.mode_rules.specs.declared.mode.Mode.TheVariants.{TwoWaySafe}
use Rattle.mode_rules.specs.declared.halt.Halt.TheVariants as halts
use Rattle.mode_rules.specs.declared.change.Change.{Change}
use Rattle.mode_rules.specs.declared.comparing.Comparison.{Comparison}
use Rattle.mode_rules.specs.declared.verdict.Verdict.{Verdict}
use Rattle.mode_rules.specs.declared.verdict.Verdict.TheVariants as verdicts
use Rattle.mode_rules.specs.Halts.{deletes_root, turns_root, top_of, is_emptied, one_of, halt_of}
use Rattle.mode_rules.specs.Laws.{turned_trees, turned_change, turned_conflict, turned_plan}
use Rattle.mode_rules.specs.Trees.{Trees, paths_of, is_point, is_in_folders, holds_folder, holds_tracked, is_blocked, is_same_at, is_less_at, same_there}
use Rattle.mode_rules.specs.Verdicts.{by_mode, comparison, verdict}
use Rattle.mode_rules.specs.Plans.{points_of, change_at, change_by, line_at, line_of, taken, conflict_at, conflict_by, conflict, plan_of}
use Rattle.mode_rules.proofs.Cases.{by_case, same_is, same_itself, less_is, Differ, both_the_same, one_holds, not_both}
use Rattle.mode_rules.proofs.Held.{has_alphas, has_betas, same_each, less_each}
use Rattle.mode_rules.proofs.PathSets.{among, three, keys_of_three}

or_turned : (a b : Bool) → (a || b) ≡ (b || a)
or_turned true true = refl
or_turned true false = refl
or_turned false true = refl
or_turned false false = refl

and_turned : (a b : Bool) → (a && b) ≡ (b && a)
and_turned true true = refl
and_turned true false = refl
and_turned false true = refl
and_turned false false = refl

last_turned : (a b c : Bool) → ((a || b) || c) ≡ ((a || c) || b)
last_turned true b c = refl
last_turned false b c = or_turned b c

-- the paths are the same
pub turned_paths : (t : Trees) → paths_of (turned_trees t) ≡ paths_of t
turned_paths t =
    keys_of_three t (trees.from_entries {R = path_cmp} (map (λ p. let x : Names × Unit {0} = (p, tt) in x) (trees.keys t.ancestor ++ trees.keys t.beta ++ trees.keys t.alpha)))
    (λ q. among (trees.keys t.ancestor ++ trees.keys t.beta ++ trees.keys t.alpha) q ∙ three (turned_trees t) q
    ∙ last_turned (trees.contains_key t.ancestor q) (trees.contains_key t.beta q) (trees.contains_key t.alpha q))

turned_point : (t : Trees) (q : Names) → is_point (turned_trees t) q ≡ is_point t q
unfolding is_in_folders
turned_point t q =
    λ i. list_all (λ p. not (is_below q p) || and_turned (holds_folder (trees.get t.beta p)) (holds_folder (trees.get t.alpha p)) i) (turned_paths t i)

pub turned_points : (t : Trees) → points_of (turned_trees t) ≡ points_of t
turned_points t = filter_agree (is_point (turned_trees t)) (is_point t) (turned_point t) (paths_of (turned_trees t)) ∙ ap (filter (is_point t)) (turned_paths t)

turned_comparison : (t : Trees) (side : ByPath Atom) (path : Names) → comparison (turned_trees t) side path ≡ comparison t side path
turned_comparison t side path = λ i. record {
  same = list_all (is_same_at t.ancestor side) (filter (λ p. is_under p path) (turned_paths t i));
  less = list_all (is_less_at t.ancestor side) (filter (λ p. is_under p path) (turned_paths t i));
}

-- the decision with each side in the other's place
abbrev turned_verdict : Verdict → Verdict
turned_verdict verdicts.AlphaTakes = verdicts.BetaTakes
turned_verdict verdicts.BetaTakes = verdicts.AlphaTakes
turned_verdict verdicts.AlphaEmptied = verdicts.BetaEmptied
turned_verdict verdicts.BetaEmptied = verdicts.AlphaEmptied
turned_verdict verdicts.Left = verdicts.Left
turned_verdict verdicts.Blocked = verdicts.Blocked
turned_verdict verdicts.Gone = verdicts.Gone
turned_verdict verdicts.Agreed = verdicts.Agreed
turned_verdict verdicts.BetaKeeps = verdicts.BetaKeeps
turned_verdict verdicts.Both = verdicts.Both

abbrev stands : Bool → Bool → Comparison
stands same less = record { same = same; less = less }

-- where not both sides are the same, and of two sides that are less one alone holds something, the mode decides alike
mode_turned : (a al b bl h k : Bool) → (a ≡ true → b ≡ true → ⊥) → (al ≡ true → bl ≡ true → k ≡ not h)
    → by_mode TwoWaySafe k (stands b bl) (stands a al) ≡ turned_verdict (by_mode TwoWaySafe h (stands a al) (stands b bl))
mode_turned true al true bl h k apart one = absurd (apart refl refl)
mode_turned true al false bl h k apart one = refl
mode_turned false al true bl h k apart one = refl
mode_turned false true false true true k apart one = ap (λ b. cond b verdicts.AlphaEmptied verdicts.BetaEmptied) (one refl refl)
mode_turned false true false true false k apart one = ap (λ b. cond b verdicts.AlphaEmptied verdicts.BetaEmptied) (one refl refl)
mode_turned false true false false h k apart one = refl
mode_turned false false false true h k apart one = refl
mode_turned false false false false h k apart one = refl

turned_cond : (c : Bool) (x y x' y' : Verdict) → x ≡ turned_verdict x' → (c ≡ false → y ≡ turned_verdict y') → cond c x y ≡ turned_verdict (cond c x' y')
turned_cond true x y x' y' same other = same
turned_cond false x y x' y' same other = other refl

same_turned : (a b : Option Atom) → same_there b a ≡ same_there a b
same_turned a b = by (same_there b a) (same_there a b) refl refl
  where
    by : (x y : Bool) → same_there b a ≡ x → same_there a b ≡ y → x ≡ y
    by true true e f = refl
    by false false e f = refl
    by true false e f = let no : true ≡ false = sym (same_itself a) ∙ ap (same_there a) (sym (same_is b a e)) ∙ f in absurd (cc)
    by false true e f = let no : true ≡ false = sym (same_itself b) ∙ ap (same_there b) (sym (same_is a b f)) ∙ e in absurd (cc)

module _ (t : Trees) (path : Names) where
  abbrev at_alpha : Option Atom
  at_alpha = trees.get t.alpha path

  abbrev at_beta : Option Atom
  at_beta = trees.get t.beta path

  abbrev of_alpha : Comparison
  of_alpha = comparison t t.alpha path

  abbrev of_beta : Comparison
  of_beta = comparison t t.beta path

  has : Differ at_alpha at_beta → list_any (eq_by_cmp path_cmp path) (paths_of t) ≡ true
  has d = elim (or_cases (is_some at_alpha) (is_some at_beta) d.some) [ inl alphas ↦ has_alphas t path alphas | inr betas ↦ has_betas t path betas ]

  decided : Differ at_alpha at_beta → by_mode TwoWaySafe (is_some at_beta) of_beta of_alpha ≡ turned_verdict (by_mode TwoWaySafe (is_some at_alpha) of_alpha of_beta)
  decided d = mode_turned of_alpha.same of_alpha.less of_beta.same of_beta.less (is_some at_alpha) (is_some at_beta)
      (λ same_a same_b. both_the_same at_alpha at_beta (trees.get t.ancestor path) d
      (same_is _ _ (same_each t t.alpha path path same_a (has d) (under_itself path)))
      (same_is _ _ (same_each t t.beta path path same_b (has d) (under_itself path))))
      (λ less_a less_b. one_holds at_alpha at_beta (trees.get t.ancestor path) d
      (less_is _ _ (less_each t t.alpha path path less_a (has d) (under_itself path)))
      (less_is _ _ (less_each t t.beta path path less_b (has d) (under_itself path))))

  -- what is decided with the sides in each other's place
  pub verdict_turned : verdict TwoWaySafe (turned_trees t) path ≡ turned_verdict (verdict TwoWaySafe t path)
  verdict_turned =
      (λ i. cond (or_turned (is_blocked at_beta) (is_blocked at_alpha) i) (cond (or_turned (holds_tracked at_beta) (holds_tracked at_alpha) i) verdicts.Blocked verdicts.Left)
      (cond (and_turned (not (is_some at_beta)) (not (is_some at_alpha)) i) verdicts.Gone
      (cond (same_turned at_alpha at_beta i) verdicts.Agreed (by_mode TwoWaySafe (is_some at_beta) (turned_comparison t t.beta path i) (turned_comparison t t.alpha path i)))))
      ∙ turned_cond (is_blocked at_alpha || is_blocked at_beta) _ _ _ _
      (turned_cond (holds_tracked at_alpha || holds_tracked at_beta) verdicts.Blocked verdicts.Left verdicts.Blocked verdicts.Left refl (λ _. refl))
      (λ free. turned_cond (not (is_some at_alpha) && not (is_some at_beta)) verdicts.Gone _ verdicts.Gone _ refl
      (λ some. turned_cond (same_there at_alpha at_beta) verdicts.Agreed _ verdicts.Agreed _ refl
      (λ apart. decided (record {
        alpha_free = (or_parts (is_blocked at_alpha) (is_blocked at_beta) free).0;
        beta_free = (or_parts (is_blocked at_alpha) (is_blocked at_beta) free).1;
        some = not_both (is_some at_alpha) (is_some at_beta) some;
        apart = apart;
      }))))

change_turned : (t : Trees) (path : Names) (v : Verdict) → change_by (turned_trees t) path (turned_verdict v) ≡ option_map turned_change (change_by t path v)
change_turned t path verdicts.AlphaTakes = refl
change_turned t path verdicts.BetaTakes = refl
change_turned t path verdicts.AlphaEmptied = refl
change_turned t path verdicts.BetaEmptied = refl
change_turned t path verdicts.Left = refl
change_turned t path verdicts.Blocked = refl
change_turned t path verdicts.Gone = refl
change_turned t path verdicts.Agreed = refl
change_turned t path verdicts.BetaKeeps = refl
change_turned t path verdicts.Both = refl

found_turned : (t : Trees) (path : Names) (reason : Reason) → conflict (turned_trees t) path reason ≡ turned_conflict (conflict t path reason)
found_turned t path reason = λ i. record {
  at = path;
  reason = reason;
  alpha = filter (λ p. not (is_same_at t.ancestor t.beta p)) (filter (λ p. is_under p path) (turned_paths t i));
  beta = filter (λ p. not (is_same_at t.ancestor t.alpha p)) (filter (λ p. is_under p path) (turned_paths t i));
}

conflict_turned : (t : Trees) (path : Names) (v : Verdict) → conflict_by (turned_trees t) path (turned_verdict v) ≡ option_map turned_conflict (conflict_by t path v)
conflict_turned t path verdicts.AlphaTakes = refl
conflict_turned t path verdicts.BetaTakes = refl
conflict_turned t path verdicts.AlphaEmptied = refl
conflict_turned t path verdicts.BetaEmptied = refl
conflict_turned t path verdicts.Left = refl
conflict_turned t path verdicts.Blocked = ap Some (found_turned t path reasons.Blocked)
conflict_turned t path verdicts.Gone = refl
conflict_turned t path verdicts.Agreed = refl
conflict_turned t path verdicts.BetaKeeps = refl
conflict_turned t path verdicts.Both = ap Some (found_turned t path reasons.Both)

two_way_case : (P : Verdict → Type 0) (sa sb : Comparison) (h : Bool)
    → P verdicts.AlphaTakes → P verdicts.BetaTakes → P verdicts.AlphaEmptied → P verdicts.BetaEmptied → P verdicts.Both → P (by_mode TwoWaySafe h sa sb)
two_way_case P sa sb h at bt ae be both = by sa.same sa.less sb.same sb.less h
  where
    by : (a al b bl h : Bool) → P (by_mode TwoWaySafe h (stands a al) (stands b bl))
    by true al b bl h = at
    by false al true bl h = bt
    by false true false true true = ae
    by false true false true false = be
    by false true false false h = at
    by false false false true h = bt
    by false false false false h = both

line_turned : (t : Trees) (path : Names)
    → line_of path (trees.get t.ancestor path) (trees.get t.beta path) (turned_verdict (verdict TwoWaySafe t path))
    ≡ line_of path (trees.get t.ancestor path) (trees.get t.alpha path) (verdict TwoWaySafe t path)
line_turned t path =
    by_case alike TwoWaySafe (trees.get t.alpha path) (trees.get t.beta path) (comparison t t.alpha path) (comparison t t.beta path)
    (λ _ _. refl) (λ _. refl) (λ _ _. refl)
    (λ same. ap (taken path (trees.get t.ancestor path)) (sym same))
    (λ _ _ _ _. two_way_case alike (comparison t t.alpha path) (comparison t t.beta path) (is_some (trees.get t.alpha path)) refl refl refl refl refl)
  where
    alike : Verdict → Type 0
    alike v = line_of path (trees.get t.ancestor path) (trees.get t.beta path) (turned_verdict v) ≡ line_of path (trees.get t.ancestor path) (trees.get t.alpha path) v

pub change_at_turned : (t : Trees) (path : Names) → change_at TwoWaySafe (turned_trees t) path ≡ option_map turned_change (change_at TwoWaySafe t path)
unfolding change_at
change_at_turned t path = ap (change_by (turned_trees t) path) (verdict_turned t path) ∙ change_turned t path (verdict TwoWaySafe t path)

pub conflict_at_turned : (t : Trees) (path : Names) → conflict_at TwoWaySafe (turned_trees t) path ≡ option_map turned_conflict (conflict_at TwoWaySafe t path)
unfolding conflict_at
conflict_at_turned t path = ap (conflict_by (turned_trees t) path) (verdict_turned t path) ∙ conflict_turned t path (verdict TwoWaySafe t path)

pub line_at_turned : (t : Trees) (path : Names) → line_at TwoWaySafe (turned_trees t) path ≡ line_at TwoWaySafe t path
unfolding line_at
line_at_turned t path = ap (line_of path (trees.get t.ancestor path) (trees.get t.beta path)) (verdict_turned t path) ∙ line_turned t path

one_mapped : {X Y : Type 0} (h : X → Y) (o : Option X) (xs : List X) → cons_option (option_map h o) (map h xs) ≡ map h (cons_option o xs)
one_mapped h None xs = refl
one_mapped h (Some x) xs = refl

-- answers that are mapped give a list that is mapped
all_mapped : {X Y Z : Type 0} (f : X → Option Z) (g : X → Option Y) (h : Y → Z) → ((x : X) → f x ≡ option_map h (g x)) → (xs : List X) → filter_map f xs ≡ map h (filter_map g xs)
all_mapped f g h each [] = refl
all_mapped f g h each (x ∷ xs) = ap₂ cons_option (each x) (all_mapped f g h each xs) ∙ one_mapped h (g x) (filter_map g xs)

all_agree : {X Y : Type 0} (f g : X → Option Y) → ((x : X) → f x ≡ g x) → (xs : List X) → filter_map f xs ≡ filter_map g xs
all_agree f g each [] = refl
all_agree f g each (x ∷ xs) = ap₂ cons_option (each x) (all_agree f g each xs)

deletes_turned : (changes : List Change) → list_any deletes_root (map turned_change changes) ≡ list_any deletes_root changes
deletes_turned [] = refl
deletes_turned (c ∷ changes) = ap (λ b. deletes_root c || b) (deletes_turned changes)

turns_turned : (changes : List Change) → list_any turns_root (map turned_change changes) ≡ list_any turns_root changes
turns_turned [] = refl
turns_turned (c ∷ changes) = ap (λ b. turns_root c || b) (turns_turned changes)

one_turned : (a b : Bool) → one_of b a ≡ one_of a b
one_turned true true = refl
one_turned true false = refl
one_turned false true = refl
one_turned false false = refl

halt_turned : (t : Trees) (changes : List Change) → halt_of TwoWaySafe (turned_trees t) (map turned_change changes) ≡ halt_of TwoWaySafe t changes
halt_turned t changes =
    λ i. cond (deletes_turned changes i) (Some halts.RootDeleted)
    (cond (turns_turned changes i) (Some halts.RootTypeChanged)
    (cond (true && nat_le 2 (length (top_of t.ancestor)) && one_turned (is_emptied t.alpha) (is_emptied t.beta) i) (Some halts.RootEmptied) None))

-- the plan with the sides in each other's place
pub plan_turned : (t : Trees) → plan_of TwoWaySafe (turned_trees t) ≡ turned_plan (plan_of TwoWaySafe t)
plan_turned t =
    let c : filter_map (change_at TwoWaySafe (turned_trees t)) (points_of (turned_trees t)) ≡ map turned_change (filter_map (change_at TwoWaySafe t) (points_of t)) =
    all_mapped _ _ turned_change (change_at_turned t) (points_of (turned_trees t)) ∙ ap (λ ps. map turned_change (filter_map (change_at TwoWaySafe t) ps)) (turned_points t) in
    let l : filter_map (line_at TwoWaySafe (turned_trees t)) (points_of (turned_trees t)) ≡ filter_map (line_at TwoWaySafe t) (points_of t) =
    all_agree _ _ (line_at_turned t) (points_of (turned_trees t)) ∙ ap (filter_map (line_at TwoWaySafe t)) (turned_points t) in
    let f : filter_map (conflict_at TwoWaySafe (turned_trees t)) (points_of (turned_trees t)) ≡ map turned_conflict (filter_map (conflict_at TwoWaySafe t) (points_of t)) =
    all_mapped _ _ turned_conflict (conflict_at_turned t) (points_of (turned_trees t)) ∙ ap (λ ps. map turned_conflict (filter_map (conflict_at TwoWaySafe t) ps)) (turned_points t) in
    let h : halt_of TwoWaySafe (turned_trees t) (filter_map (change_at TwoWaySafe (turned_trees t)) (points_of (turned_trees t))) ≡ halt_of TwoWaySafe t (filter_map (change_at TwoWaySafe t) (points_of t)) =
    ap (halt_of TwoWaySafe (turned_trees t)) c ∙ halt_turned t (filter_map (change_at TwoWaySafe t) (points_of t)) in
    λ i. record { halt = h i; changes = c i; agreed = l i; conflicts = f i }
