-- A step of the walk: what is decided at a path is decided by its run, and the paths behind it are decided as before.
use Rattle.std.proofs.Common.{◌≡◌, ℕ, Bool, true, false, cond, ◌&&◌, ◌||◌, ◌+◌, not, if◌then◌else◌, List, [], ◌∷◌, ◌++◌, take, drop, refl, sym, ap, ap₂, subst, ◌∙◌, Option, Some, None}
use Rattle.std.specs.FinMap as trees
use Rattle.std.specs.List.{filter, filter_map, list_all, prefix_len, cons_option}
use Rattle.std.proofs.lemmas.Bool.{and_parts, and_from, true≢false}
use Rattle.std.proofs.lemmas.List.{append_assoc, append-nil, take-append-drop}
use Rattle.std.proofs.lemmas.List.Elements.{filter-append}
use Rattle.std.proofs.lemmas.List.Folds.{list_all-append}
use Rattle.sync_path.specs.Path.{is_under, is_below}
use Rattle.entry_tree.specs.Tree.{Names}
use Rattle.mode_rules.specs.declared.mode.Mode.{Mode}
use Rattle.mode_rules.specs.declared.verdict.Verdict.{Verdict}
use Rattle.mode_rules.specs.declared.verdict.Verdict.TheVariants as verdicts
use Rattle.mode_rules.specs.Trees.{Trees, is_in_folders, is_point, paths_at, paths_of}
use Rattle.mode_rules.specs.Verdicts.{verdict}
use Rattle.mode_rules.specs.Plans.{points_of, change_at, change_by, line_at, conflict_at, conflict_by}
use Rattle.reconcile.specs.declared.decided.Decided.{Decided}
use Rattle.reconcile.specs.Runs.{listed, decided_of}
use Rattle.reconcile.proofs.PathRuns.{run_len, verdict_in, conflict_by_in, line_by}
use Rattle.mode_rules.proofs.Cases.{folders_agree}
use Rattle.mode_rules.proofs.Below.{folders, below_is_under}
use Rattle.reconcile.proofs.Order.{is_before, rises, map_rises, before_is_not_under, under_itself, under_through, is_false, run_is_under, rest_is_not_under, take_one, drop_one}

-- a path p doesn't keep q from being decided on its own
abbrev pub lets : Trees → Names → Names → Bool
lets t p q = not (is_below q p) || folders t p

in_folders : (t : Trees) (ps : List Names) (q : Names) → is_in_folders t.alpha t.beta ps q ≡ list_all (λ p. lets t p q) ps
unfolding is_in_folders
in_folders t ps q = refl

or_yes : (a : Bool) → (a || true) ≡ true
or_yes true = refl
or_yes false = refl

and_no : (a : Bool) → (a && false) ≡ false
and_no true = refl
and_no false = refl

self_above : (b : Bool) → (b && not b) ≡ false
self_above true = refl
self_above false = refl

not_turned : (b : Bool) → not b ≡ true → b ≡ false
not_turned true e = absurd (true≢false (sym e))
not_turned false e = refl

lets_folder : (t : Trees) (p q : Names) → folders t p ≡ true → lets t p q ≡ true
lets_folder t p q e = ap (λ b. not (is_below q p) || b) e ∙ or_yes (not (is_below q p))

lets_apart : (t : Trees) (p q : Names) → is_under q p ≡ false → lets t p q ≡ true
lets_apart t p q e = ap (λ b. not b || folders t p) (below_is_under q p) ∙ ap (λ b. not (b && not (is_under p q)) || folders t p) e

lets_self : (t : Trees) (p : Names) → lets t p p ≡ true
lets_self t p = ap (λ b. not b || folders t p) (below_is_under p p ∙ self_above (is_under p p))

all_behind_let : (t : Trees) (path : Names) (below : List Names) → list_all (is_before path) below ≡ true → list_all (λ p. lets t p path) below ≡ true
all_behind_let t path [] h = refl
all_behind_let t path (b ∷ bs) h =
    let both = and_parts (is_before path b) (list_all (is_before path) bs) h in
    and_from (lets t b path) _ (lets_apart t b path (before_is_not_under path b both.0)) (all_behind_let t path bs both.1)

-- Where the walk stands: no path before keeps any of those that are left from being decided on its own.
pub record IsAt (t : Trees) (before rest : List Names) : Type 0 where
  pub whole : before ++ rest ≡ paths_of t
  pub clear : list_all (λ q. list_all (λ p. lets t p q) before) rest ≡ true

-- How the paths round one stand to it in path order.
record Rises (before : List Names) (path : Names) (below : List Names) : Type 0 where
  all_before : list_all (λ p. is_before p path) before ≡ true
  all_behind : list_all (is_before path) below ≡ true
  rest : rises below ≡ true

rises_split : (before : List Names) (path : Names) (below : List Names) → rises (before ++ path ∷ below) ≡ true → Rises before path below
rises_split [] path below h =
    let both = and_parts (list_all (is_before path) below) (rises below) h in
    record { all_before = refl; all_behind = both.0; rest = both.1 }
rises_split (b ∷ bs) path below h =
    let both = and_parts (list_all (is_before b) (bs ++ path ∷ below)) (rises (bs ++ path ∷ below)) h in
    let more = rises_split bs path below both.1 in
    let of_b = and_parts (list_all (is_before b) bs) (is_before b path && list_all (is_before b) below) (sym (list_all-append (is_before b) bs (path ∷ below)) ∙ both.0) in
    record {
      all_before = and_from _ _ (and_parts (is_before b path) (list_all (is_before b) below) of_b.1).0 more.all_before;
      all_behind = more.all_behind;
      rest = more.rest;
    }

paths_rise : (t : Trees) → rises (paths_of t) ≡ true
paths_rise t = map_rises (trees.from_entries _)

at_rises : (t : Trees) (before : List Names) (path : Names) (below : List Names) → IsAt t before (path ∷ below) → Rises before path below
at_rises t before path below at = rises_split before path below (ap rises at.whole ∙ paths_rise t)

is_a_point : (t : Trees) (before : List Names) (path : Names) (below : List Names) → IsAt t before (path ∷ below) → is_point t path ≡ true
is_a_point t before path below at =
    in_folders t (paths_of t) path
    ∙ ap (list_all (λ p. lets t p path)) (sym at.whole)
    ∙ list_all-append (λ p. lets t p path) before (path ∷ below)
    ∙ and_from _ _
    (and_parts (list_all (λ p. lets t p path) before) (list_all (λ q. list_all (λ p. lets t p q) before) below) at.clear).0
    (and_from (lets t path path) _ (lets_self t path) (all_behind_let t path below (at_rises t before path below at).all_behind))

not_a_point : (t : Trees) (before : List Names) (path : Names) (below : List Names) → IsAt t before (path ∷ below)
    → folders t path ≡ false → (q : Names) → is_before path q ≡ true → is_under q path ≡ true → is_point t q ≡ false
not_a_point t before path below at plain q later under =
    let v : is_under path q ≡ false = before_is_not_under path q later in
    let hinders : lets t path q ≡ false = ap (λ b. not b || folders t path) (below_is_under q path) ∙ (λ i. not (under i && not (v i)) || plain i) in
    in_folders t (paths_of t) q
    ∙ ap (list_all (λ p. lets t p q)) (sym at.whole)
    ∙ list_all-append (λ p. lets t p q) before (path ∷ below)
    ∙ ap (λ b. list_all (λ p. lets t p q) before && (b && list_all (λ p. lets t p q) below)) hinders
    ∙ and_no _

no_points : (t : Trees) (before : List Names) (path : Names) (below : List Names) → IsAt t before (path ∷ below)
    → folders t path ≡ false → (run : List Names) → list_all (is_before path) run ≡ true → list_all (λ p. is_under p path) run ≡ true → filter (is_point t) run ≡ []
no_points t before path below at plain [] later under = refl
no_points t before path below at plain (q ∷ run) later under =
    let l = and_parts (is_before path q) (list_all (is_before path) run) later in
    let u = and_parts (is_under q path) (list_all (λ p. is_under p path) run) under in
    ap (λ b. cond b (q ∷ filter (is_point t) run) (filter (is_point t) run)) (not_a_point t before path below at plain q l.0 u.0)
    ∙ no_points t before path below at plain run l.1 u.1

pushed : (t : Trees) (before run behind : List Names) → list_all (λ q. list_all (λ p. lets t p q) before) behind ≡ true
    → list_all (λ q. list_all (λ p. lets t p q) run) behind ≡ true → list_all (λ q. list_all (λ p. lets t p q) (before ++ run)) behind ≡ true
pushed t before run [] a b = refl
pushed t before run (q ∷ behind) a b =
    let x = and_parts (list_all (λ p. lets t p q) before) _ a in
    let y = and_parts (list_all (λ p. lets t p q) run) _ b in
    and_from _ _ (list_all-append (λ p. lets t p q) before run ∙ and_from _ _ x.0 y.0) (pushed t before run behind x.1 y.1)

folder_clear : (t : Trees) (path : Names) → folders t path ≡ true → (behind : List Names) → list_all (λ q. list_all (λ p. lets t p q) (path ∷ [])) behind ≡ true
folder_clear t path e [] = refl
folder_clear t path e (q ∷ behind) = and_from _ _ (and_from (lets t path q) true (lets_folder t path q e) refl) (folder_clear t path e behind)

run_lets : (t : Trees) (path q : Names) → is_under q path ≡ false → (run : List Names) → list_all (λ p. is_under p path) run ≡ true → list_all (λ p. lets t p q) run ≡ true
run_lets t path q out [] under = refl
run_lets t path q out (p ∷ run) under =
    let u = and_parts (is_under p path) (list_all (λ p. is_under p path) run) under in
    and_from (lets t p q) _
    (lets_apart t p q (is_false (is_under q p) (λ h. true≢false (sym (under_through q p path h u.0) ∙ out))))
    (run_lets t path q out run u.1)

run_clear : (t : Trees) (path : Names) (run : List Names) → list_all (λ p. is_under p path) run ≡ true → (behind : List Names)
    → list_all (λ q. not (is_under q path)) behind ≡ true → list_all (λ q. list_all (λ p. lets t p q) run) behind ≡ true
run_clear t path run under [] out = refl
run_clear t path run under (q ∷ behind) out =
    let o = and_parts (not (is_under q path)) _ out in
    and_from _ _ (run_lets t path q (not_turned _ o.0) run under) (run_clear t path run under behind o.1)

taken_all : {X : Type 0} (test : X → Bool) (n : ℕ) (xs : List X) → list_all test xs ≡ true → list_all test (take n xs) ≡ true
taken_all test n xs h = (and_parts (list_all test (take n xs)) (list_all test (drop n xs)) (sym (list_all-append test (take n xs) (drop n xs)) ∙ ap (list_all test) (take-append-drop n xs) ∙ h)).0

left_all : {X : Type 0} (test : X → Bool) (n : ℕ) (xs : List X) → list_all test xs ≡ true → list_all test (drop n xs) ≡ true
left_all test n xs h = (and_parts (list_all test (take n xs)) (list_all test (drop n xs)) (sym (list_all-append test (take n xs) (drop n xs)) ∙ ap (list_all test) (take-append-drop n xs) ∙ h)).1

filter_all : {X : Type 0} (test : X → Bool) (xs : List X) → list_all test xs ≡ true → filter test xs ≡ xs
filter_all test [] h = refl
filter_all test (x ∷ xs) h =
    let both = and_parts (test x) (list_all test xs) h in
    ap (λ b. cond b (x ∷ filter test xs) (filter test xs)) both.0 ∙ ap (λ l. x ∷ l) (filter_all test xs both.1)

filter_none : {X : Type 0} (test : X → Bool) (xs : List X) → list_all (λ x. not (test x)) xs ≡ true → filter test xs ≡ []
filter_none test [] h = refl
filter_none test (x ∷ xs) h =
    let both = and_parts (not (test x)) _ h in
    ap (λ b. cond b (x ∷ filter test xs) (filter test xs)) (not_turned _ both.0) ∙ filter_none test xs both.1

before_not_under : (path : Names) (before : List Names) → list_all (λ p. is_before p path) before ≡ true → list_all (λ p. not (is_under p path)) before ≡ true
before_not_under path [] h = refl
before_not_under path (p ∷ before) h =
    let both = and_parts (is_before p path) _ h in
    and_from _ _ (ap not (before_is_not_under p path both.0)) (before_not_under path before both.1)

-- the paths at and below one are its run
run_is_paths_at : (t : Trees) (before : List Names) (path : Names) (below : List Names) → IsAt t before (path ∷ below)
    → paths_at t path ≡ path ∷ take (prefix_len (λ p. is_under p path) below) below
run_is_paths_at t before path below at =
    let n = prefix_len (λ p. is_under p path) below in
    let r = at_rises t before path below at in
    ap (filter (λ p. is_under p path)) (sym at.whole)
    ∙ filter-append (λ p. is_under p path) before (path ∷ below)
    ∙ ap (λ l. l ++ filter (λ p. is_under p path) (path ∷ below)) (filter_none (λ p. is_under p path) before (before_not_under path before r.all_before))
    ∙ ap (λ b. cond b (path ∷ filter (λ p. is_under p path) below) (filter (λ p. is_under p path) below)) (under_itself path)
    ∙ ap (λ l. path ∷ l) (
    ap (filter (λ p. is_under p path)) (sym (take-append-drop n below))
    ∙ filter-append (λ p. is_under p path) (take n below) (drop n below)
    ∙ ap₂ (λ a b. a ++ b) (filter_all (λ p. is_under p path) (take n below) (run_is_under path below)) (filter_none (λ p. is_under p path) (drop n below) (rest_is_not_under path below r.all_behind r.rest))
    ∙ append-nil (take n below))

in_its_run : (t : Trees) (path : Names) (v : Verdict) → conflict_by t path v ≡ conflict_by_in t (paths_at t path) path v
in_its_run t path verdicts.Blocked = refl
in_its_run t path verdicts.Both = refl
in_its_run t path verdicts.Left = refl
in_its_run t path verdicts.Gone = refl
in_its_run t path verdicts.Agreed = refl
in_its_run t path verdicts.AlphaTakes = refl
in_its_run t path verdicts.BetaTakes = refl
in_its_run t path verdicts.AlphaEmptied = refl
in_its_run t path verdicts.BetaEmptied = refl
in_its_run t path verdicts.BetaKeeps = refl

-- What a step decides: the path by its run, and then the paths behind the run.
pub record Step (mode : Mode) (t : Trees) (before : List Names) (path : Names) (below run behind : List Names) : Type 0 where
  pub at : IsAt t (before ++ run) behind
  pub points : filter (is_point t) (path ∷ below) ≡ path ∷ filter (is_point t) behind
  pub verdict_is : verdict mode t path ≡ verdict_in mode t run path
  pub conflict_is : conflict_by t path (verdict mode t path) ≡ conflict_by_in t run path (verdict_in mode t run path)

folder_step : (mode : Mode) (t : Trees) (before : List Names) (path : Names) (below : List Names) → IsAt t before (path ∷ below)
    → folders t path ≡ true → Step mode t before path below (path ∷ []) below
folder_step mode t before path below at e =
    let agreed : verdict mode t path ≡ verdicts.Agreed = folders_agree mode _ _ _ _ e in
    let agreed_in : verdict_in mode t (path ∷ []) path ≡ verdicts.Agreed = folders_agree mode _ _ _ _ e in
    record {
      at = record {
        whole = append_assoc before (path ∷ []) below ∙ at.whole;
        clear = pushed t before (path ∷ []) below
            (and_parts (list_all (λ p. lets t p path) before) (list_all (λ q. list_all (λ p. lets t p q) before) below) at.clear).1
            (folder_clear t path e below);
      };
      points = ap (λ b. cond b (path ∷ filter (is_point t) below) (filter (is_point t) below)) (is_a_point t before path below at);
      verdict_is = agreed ∙ sym agreed_in;
      conflict_is = ap (conflict_by t path) agreed ∙ sym (ap (conflict_by_in t (path ∷ []) path) agreed_in);
    }

plain_step : (mode : Mode) (t : Trees) (before : List Names) (path : Names) (below : List Names) → IsAt t before (path ∷ below)
    → folders t path ≡ false → Step mode t before path below (path ∷ take (prefix_len (λ p. is_under p path) below) below) (drop (prefix_len (λ p. is_under p path) below) below)
plain_step mode t before path below at e =
    let n = prefix_len (λ p. is_under p path) below in
    let r = at_rises t before path below at in
    let all : path ∷ take n below ++ drop n below ≡ path ∷ below = ap (λ l. path ∷ l) (take-append-drop n below) in
    let run : paths_at t path ≡ path ∷ take n below = run_is_paths_at t before path below at in
    let by_run : verdict mode t path ≡ verdict_in mode t (path ∷ take n below) path = ap (λ ps. verdict_in mode t ps path) run in
    record {
      at = record {
        whole = append_assoc before (path ∷ take n below) (drop n below) ∙ ap (λ l. before ++ l) all ∙ at.whole;
        clear = pushed t before (path ∷ take n below) (drop n below)
            (left_all (λ q. list_all (λ p. lets t p q) before) n below
            (and_parts (list_all (λ p. lets t p path) before) (list_all (λ q. list_all (λ p. lets t p q) before) below) at.clear).1)
            (run_clear t path (path ∷ take n below) (and_from _ _ (under_itself path) (run_is_under path below)) (drop n below) (rest_is_not_under path below r.all_behind r.rest));
      };
      points =
          ap (λ b. cond b (path ∷ filter (is_point t) below) (filter (is_point t) below)) (is_a_point t before path below at)
          ∙ ap (λ l. path ∷ l) (
          ap (filter (is_point t)) (sym (take-append-drop n below))
          ∙ filter-append (is_point t) (take n below) (drop n below)
          ∙ ap (λ l. l ++ filter (is_point t) (drop n below)) (no_points t before path below at e (take n below) (taken_all (is_before path) n below r.all_behind) (run_is_under path below)));
      verdict_is = by_run;
      conflict_is = in_its_run t path (verdict mode t path) ∙ ap₂ (λ ps v. conflict_by_in t ps path v) run by_run;
    }

-- a step, by as many paths as the run has
pub step : (mode : Mode) (t : Trees) (before : List Names) (path : Names) (below : List Names) → IsAt t before (path ∷ below)
    → Step mode t before path below (take (1 + run_len t path below) (path ∷ below)) (drop (1 + run_len t path below) (path ∷ below))
step mode t before path below at = by (folders t path) refl
  where
    len : Bool → ℕ
    len c = if c then 0 else prefix_len (λ p. is_under p path) below

    shaped : (n : ℕ) → Step mode t before path below (path ∷ take n below) (drop n below)
        → Step mode t before path below (take (1 + n) (path ∷ below)) (drop (1 + n) (path ∷ below))
    shaped n s = subst (λ (l : List Names × List Names). Step mode t before path below l.0 l.1) (λ i. (sym (take_one path below n) i, sym (drop_one path below n) i)) s

    by : (c : Bool) → folders t path ≡ c → Step mode t before path below (take (1 + run_len t path below) (path ∷ below)) (drop (1 + run_len t path below) (path ∷ below))
    by true e = subst (λ n. Step mode t before path below (take (1 + n) (path ∷ below)) (drop (1 + n) (path ∷ below))) (ap len (sym e)) (shaped 0 (folder_step mode t before path below at e))
    by false e = subst (λ n. Step mode t before path below (take (1 + n) (path ∷ below)) (drop (1 + n) (path ∷ below))) (ap len (sym e)) (shaped (prefix_len (λ p. is_under p path) below) (plain_step mode t before path below at e))

change_is : (mode : Mode) (t : Trees) (path : Names) (v : Verdict) → verdict mode t path ≡ v → change_at mode t path ≡ change_by t path v
unfolding change_at
change_is mode t path v e = ap (change_by t path) e

line_is : (mode : Mode) (t : Trees) (path : Names) (v : Verdict) → verdict mode t path ≡ v → line_at mode t path ≡ line_by t path v
unfolding line_at
line_is mode t path v e = ap (line_by t path) e

conflict_at_is : (mode : Mode) (t : Trees) (path : Names) → conflict_at mode t path ≡ conflict_by t path (verdict mode t path)
unfolding conflict_at
conflict_at_is mode t path = refl

-- The walk so far: what is decided, and what the paths that are left will add, is all that is decided.
pub record IsWalked (mode : Mode) (t : Trees) (rest : List Names) (decided : Decided) : Type 0 where
  pub before : List Names
  pub at : IsAt t before rest
  pub changes : decided.changes ++ filter_map (change_at mode t) (filter (is_point t) rest) ≡ filter_map (change_at mode t) (points_of t)
  pub agreed : decided.agreed ++ filter_map (line_at mode t) (filter (is_point t) rest) ≡ filter_map (line_at mode t) (points_of t)
  pub conflicts : decided.conflicts ++ filter_map (conflict_at mode t) (filter (is_point t) rest) ≡ filter_map (conflict_at mode t) (points_of t)

none_before : (t : Trees) (rest : List Names) → list_all (λ q. list_all (λ p. lets t p q) []) rest ≡ true
none_before t [] = refl
none_before t (q ∷ rest) = none_before t rest

-- at the start nothing is decided, and all paths are left
pub walk_start : (mode : Mode) (t : Trees) (rest : List Names) (decided : Decided) → rest ≡ paths_of t → decided ≡ record { changes = []; agreed = []; conflicts = [] } → IsWalked mode t rest decided
walk_start mode t rest decided whole e =
    subst (λ ps. IsWalked mode t ps decided) (sym whole) (subst (IsWalked mode t (paths_of t)) (sym e) (record {
      before = [];
      at = record { whole = refl; clear = none_before t (paths_of t) };
      changes = refl;
      agreed = refl;
      conflicts = refl;
    }))

put_first : {X Y : Type 0} (done : List Y) (f : X → Option Y) (x : X) (xs : List X) (all more : List Y) (o : Option Y) → f x ≡ o → more ≡ done ++ listed o
    → done ++ filter_map f (x ∷ xs) ≡ all → more ++ filter_map f xs ≡ all
put_first done f x xs all more o is grown e = by o is grown
  where
    by : (o : Option _) → f x ≡ o → more ≡ done ++ listed o → more ++ filter_map f xs ≡ all
    by None is grown = ap (λ l. l ++ filter_map f xs) (grown ∙ append-nil done) ∙ ap (λ o. done ++ cons_option o (filter_map f xs)) (sym is) ∙ e
    by (Some y) is grown = ap (λ l. l ++ filter_map f xs) grown ∙ append_assoc done (y ∷ []) (filter_map f xs) ∙ ap (λ o. done ++ cons_option o (filter_map f xs)) (sym is) ∙ e

-- a step adds what is decided at its path
pub walk_step : (mode : Mode) (t : Trees) (path : Names) (below : List Names) (old new : Decided) → IsWalked mode t (path ∷ below) old
    → (run : List Names) → run ≡ take (1 + run_len t path below) (path ∷ below)
    → new.changes ≡ old.changes ++ listed (change_by t path (verdict_in mode t run path))
    → new.agreed ≡ old.agreed ++ listed (line_by t path (verdict_in mode t run path))
    → new.conflicts ≡ old.conflicts ++ listed (conflict_by_in t run path (verdict_in mode t run path))
    → IsWalked mode t (drop (1 + run_len t path below) (path ∷ below)) new
walk_step mode t path below old new w run shape changes agreed conflicts =
    let s = step mode t w.before path below w.at in
    let v : verdict mode t path ≡ verdict_in mode t run path = s.verdict_is ∙ ap (λ ps. verdict_in mode t ps path) (sym shape) in
    let behind = drop (1 + run_len t path below) (path ∷ below) in
    record {
      before = w.before ++ take (1 + run_len t path below) (path ∷ below);
      at = s.at;
      changes = put_first old.changes (change_at mode t) path (filter (is_point t) behind) _ new.changes _ (change_is mode t path _ v) changes
          (ap (λ ps. old.changes ++ filter_map (change_at mode t) ps) (sym s.points) ∙ w.changes);
      agreed = put_first old.agreed (line_at mode t) path (filter (is_point t) behind) _ new.agreed _ (line_is mode t path _ v) agreed
          (ap (λ ps. old.agreed ++ filter_map (line_at mode t) ps) (sym s.points) ∙ w.agreed);
      conflicts = put_first old.conflicts (conflict_at mode t) path (filter (is_point t) behind) _ new.conflicts _
          (conflict_at_is mode t path ∙ s.conflict_is ∙ ap (λ ps. conflict_by_in t ps path (verdict_in mode t ps path)) (sym shape)) conflicts
          (ap (λ ps. old.conflicts ++ filter_map (conflict_at mode t) ps) (sym s.points) ∙ w.conflicts);
    }

-- at the end all is decided
pub walk_end : (mode : Mode) (t : Trees) (rest : List Names) (decided : Decided) → IsWalked mode t rest decided → rest ≡ [] → decided ≡ decided_of mode t
walk_end mode t rest decided w e =
    let c : decided.changes ≡ _ = sym (append-nil decided.changes) ∙ ap (λ ps. decided.changes ++ filter_map (change_at mode t) (filter (is_point t) ps)) (sym e) ∙ w.changes in
    let l : decided.agreed ≡ _ = sym (append-nil decided.agreed) ∙ ap (λ ps. decided.agreed ++ filter_map (line_at mode t) (filter (is_point t) ps)) (sym e) ∙ w.agreed in
    let m : decided.conflicts ≡ _ = sym (append-nil decided.conflicts) ∙ ap (λ ps. decided.conflicts ++ filter_map (conflict_at mode t) (filter (is_point t) ps)) (sym e) ∙ w.conflicts in
    λ i. record { changes = c i; agreed = l i; conflicts = m i }

-- a turn of the walk: a run is split off, and what is decided at its path is added
pub walk_turn : (mode : Mode) (t : Trees) (path : Names) (below rest run behind : List Names) (old new : Decided) (n : ℕ) → IsWalked mode t rest old
    → rest ≡ path ∷ below → n ≡ run_len t path below → run ≡ take (1 + n) rest → behind ≡ drop (1 + n) rest
    → new.changes ≡ old.changes ++ listed (change_by t path (verdict_in mode t run path))
    → new.agreed ≡ old.agreed ++ listed (line_by t path (verdict_in mode t run path))
    → new.conflicts ≡ old.conflicts ++ listed (conflict_by_in t run path (verdict_in mode t run path))
    → IsWalked mode t behind new
walk_turn mode t path below rest run behind old new n w shape len front back changes agreed conflicts =
    subst (λ ps. IsWalked mode t ps new) (sym (back ∙ ap₂ (λ k ps. drop (1 + k) ps) len shape))
    (walk_step mode t path below old new (subst (λ ps. IsWalked mode t ps old) shape w) run (front ∙ ap₂ (λ k ps. take (1 + k) ps) len shape) changes agreed conflicts)
