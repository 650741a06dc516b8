-- What an undisturbed change makes.
use Rattle.std.proofs.Common.{◌≡◌, ◌≢◌, ℕ, ◌+◌, ◌<◌, ◌≤◌, Bool, true, false, cond, not, ◌||◌, ◌&&◌, List, [], ◌∷◌, ◌++◌, length, length-append, arith, refl, sym, ap, subst, ◌∙◌, inl, inr, Option, Some, None, append_assoc}
use Rattle.std.specs.Prelude.{◌⊎◌, is_some, unwrap_or, if◌then◌else◌}
use Rattle.std.proofs.lemmas.Bool.{or_right}
use Rattle.std.proofs.lemmas.List.{get_or_append_left, append-nil}
use Rattle.std.proofs.Math.Seq.{get_or-append_seam}
use Rattle.std.specs.FinMap as map
use Rattle.std.specs.List.{cons_option, filter_map, AllByRecursion}
use Rattle.std.specs.List.Sorted.{IsStrictlySortedBy}
use Rattle.std.specs.Map.{keys_of}
use Rattle.std.specs.Option.{option_and_then, option_map_or, option_to_list}
use Rattle.std.specs.Ordering.{is_eq, eq_by_cmp}
use Rattle.std.specs.declared.cmp.Ordering.TheVariants.{Less}
use Rattle.std.proofs.lemmas.Cmp.{tied_itself}
use Rattle.std.proofs.lemmas.Map.Keys.{sorted_head, sorted_tail}
use Rattle.finite_maps.proofs.Constructors.{none_is_not_some, some_same}
use Rattle.sha2.specs.Sha256.{sha256}
use Rattle.sync_path.specs.Path.{path_cmp, is_under, is_below, parent_of}
use Rattle.sync_path.specs.PathOrder.{path_cmp_total}
use Rattle.entry_tree.specs.Atom.{is_dir as is_folder, is_tracked}
use Rattle.entry_tree.specs.Entry.{is_dir}
use Rattle.entry_tree.specs.Tree.{Names, ByPath, holds_folder, set_at}
use Rattle.entry_tree.specs.declared.atom.Atom.{Atom}
use Rattle.entry_tree.specs.declared.atom.Atom.TheVariants as atom
use Rattle.entry_tree.specs.declared.entry.Entry.{Entry}
use Rattle.entry_tree.specs.declared.entry.Entry.TheVariants as entry
use Rattle.entry_tree.proofs.Paths.{under_itself, child_below, not_below_child}
use Rattle.entry_tree.proofs.Trees.{get-set, tie_is, root_or_child, parent-child}
use Rattle.mode_rules.proofs.Below.{below_is_under, under_both, under_through, parent_or_child}
use Rattle.mode_rules.specs.declared.ancestor_line.AncestorLine.TheVariants.{Set}
use Rattle.mode_rules.specs.declared.problem.Cause.{Cause}
use Rattle.roots_api.specs.States.{RootState, content_of, is_expected, kept_by, missing_parent, next_stamp, nothing_staged}
use Rattle.roots_api.specs.Steps.{answer_of, after, done, in_folder, where_expected}
use Rattle.roots_api.specs.declared.answer.Answer.{Answer}
use Rattle.roots_api.specs.declared.answer.Answer.TheVariants.{Done, Differs, NoParent, NotStaged}
use Rattle.roots_api.specs.declared.op.Op.{Op}
use Rattle.roots_api.specs.declared.op.Op.TheVariants.{Place, MakeDir, MakeLink}
use Rattle.transition_plan.specs.Courses.{fate_of, not_done}
use Rattle.transition_plan.specs.Stepping.{creation}
use Rattle.transition_plan.specs.declared.step.Step.{Step}
use Rattle.transition_laws.specs.Undisturbed.{IsPartOfTree, KeepsContent, IsFileLeft, IsLeft}
use Rattle.transition_laws.proofs.Carrying.{Walk, by_fate, carry}
use Rattle.transition_laws.proofs.Finding.{no_true, is_false, is_among, not_among, before_all}
use Rattle.transition_laws.proofs.Removing.{below_parts, below_from, below_is_later, Covers, covers_rest, later_among}

-- ---- what is left, and stays so while contents are added

-- the stamp of a file that stands there is one of the ledger's
abbrev pub IsNamed : RootState → Option Entry → Type 0
IsNamed s None = Unit {0}
IsNamed s (Some entry.Dir) = Unit {0}
IsNamed s (Some (entry.File stamp exec)) = stamp.0 < length s.ledger
IsNamed s (Some (entry.Link text)) = Unit {0}
IsNamed s (Some entry.Other) = Unit {0}

pub record IsSure (first : ℕ) (s : RootState) (a : Option Atom) (found : Option Entry) : Type 0 where
  pub left : IsLeft first s a found
  pub named : IsNamed s found

named_grows : (s t : RootState) (found : Option Entry) (more : List (List ℕ)) → t.ledger ≡ s.ledger ++ more → IsNamed s found → IsNamed t found
named_grows s t None more is h = tt
named_grows s t (Some entry.Dir) more is h = tt
named_grows s t (Some (entry.File stamp exec)) more is h = let long = ap length is ∙ length-append s.ledger more in omega (arith, h, long)
named_grows s t (Some (entry.Link text)) more is h = tt
named_grows s t (Some entry.Other) more is h = tt

file_grows : (first : ℕ) (s t : RootState) (digest : List ℕ) (exec : Bool) (found : Option Entry) (more : List (List ℕ)) → t.ledger ≡ s.ledger ++ more → IsNamed s found
    → IsFileLeft first s digest exec found → IsFileLeft first t digest exec found
file_grows first s t digest exec found more is named h =
    let below : h.stamp.0 < length s.ledger = subst (IsNamed s) h.there named in
    record {
      stamp = h.stamp;
      there = h.there;
      late = h.late;
      shown = ap (λ (l : List (List ℕ)). sha256 (content_of l h.stamp)) is ∙ ap sha256 (get_or_append_left s.ledger more [] h.stamp.0 below) ∙ h.shown;
    }

left_grows : (first : ℕ) (s t : RootState) (a : Option Atom) (found : Option Entry) (more : List (List ℕ)) → t.ledger ≡ s.ledger ++ more → IsNamed s found → IsLeft first s a found → IsLeft first t a found
left_grows first s t None found more is named h = h
left_grows first s t (Some atom.Dir) found more is named h = h
left_grows first s t (Some (atom.File digest exec)) found more is named h = file_grows first s t digest exec found more is named h
left_grows first s t (Some (atom.Link text)) found more is named h = h
left_grows first s t (Some atom.Untracked) found more is named h = h
left_grows first s t (Some (atom.Problem kind)) found more is named h = h

pub sure_grows : (first : ℕ) (s t : RootState) (a : Option Atom) (found : Option Entry) (more : List (List ℕ)) → t.ledger ≡ s.ledger ++ more → IsSure first s a found → IsSure first t a found
sure_grows first s t a found more is h = record { left = left_grows first s t a found more is h.named h.left; named = named_grows s t found more is h.named }

-- nothing stands where nothing is left
sure_none : (first : ℕ) (s : RootState) (b : Bool) (a : Option Atom) (found : Option Entry) → b ≡ true → IsSure first s (if b then None else a) found → found ≡ None
sure_none first s b a found t h = (subst (λ (x : Bool). IsSure first s (if x then None else a) found) t h).left

sure_nothing : (first : ℕ) (s : RootState) (b : Bool) (a : Option Atom) (found : Option Entry) → a ≡ None → IsSure first s (if b then None else a) found → found ≡ None
sure_nothing first s true a found e h = h.left
sure_nothing first s false a found e h = (subst (λ (x : Option Atom). IsSure first s x found) e h).left

-- what isn't tracked leaves nothing
let_be_leaves : (first : ℕ) (s : RootState) (a : Atom) (found : Option Entry) → is_tracked a ≡ false → found ≡ None → IsSure first s (Some a) found
let_be_leaves first s atom.Dir found t h = absurd (no_true true refl t)
let_be_leaves first s (atom.File digest exec) found t h = absurd (no_true true refl t)
let_be_leaves first s (atom.Link text) found t h = absurd (no_true true refl t)
let_be_leaves first s atom.Untracked found t h = record { left = h; named = subst (IsNamed s) (sym h) tt }
let_be_leaves first s (atom.Problem kind) found t h = record { left = h; named = subst (IsNamed s) (sym h) tt }

-- ---- one operation that makes something

module _ (tree : ByPath Entry) (p : Names) where
  apart_eq : (q : Names) → q ≢ p → eq_by_cmp path_cmp q p ≡ false
  apart_eq q apart = is_false (eq_by_cmp path_cmp q p) (λ t. apart (tie_is q p t))

  itself : eq_by_cmp path_cmp p p ≡ true
  itself = ap is_eq (tied_itself path_cmp_total p)

  pub set_there : (x : Entry) → map.get (set_at is_dir tree p x) p ≡ Some x
  set_there x = get-set is_dir tree p x p ∙ ap (λ b. cond b (Some x) (cond (is_dir x || not (is_below p p)) (map.get tree p) None)) itself

  -- where nothing stands below, all else stays
  pub set_others : (x : Entry) (q : Names) → eq_by_cmp path_cmp q p ≡ false → (is_below q p ≡ true → map.get tree q ≡ None) → map.get (set_at is_dir tree p x) q ≡ map.get tree q
  set_others x q apart none =
      get-set is_dir tree p x q ∙ ap (λ b. cond b (Some x) (cond (is_dir x || not (is_below q p)) (map.get tree q) None)) apart ∙ by (is_dir x) (is_below q p) refl
    where
      by : (d b : Bool) → is_below q p ≡ b → cond (d || not b) (map.get tree q) None ≡ map.get tree q
      by true b e = refl
      by false true e = sym (none e)
      by false false e = refl

-- an operation that may be made there is done
in_folder_is : (tree : ByPath Entry) (p : Names) (answer : Answer (List ℕ)) → missing_parent tree p ≡ None → in_folder tree p answer ≡ answer
in_folder_is tree p answer e = ap (λ m. option_map_or (λ missing. NoParent missing.1) m answer) e

pub where_is : (tree : ByPath Entry) (p : Names) (expected : Option Entry) (answer : Answer (List ℕ)) → is_expected (map.get tree p) expected ≡ true → where_expected tree p expected answer ≡ answer
where_is tree p expected answer e = ap (λ b. cond b answer (Differs (map.get tree p))) e

pub makes : (tree : ByPath Entry) (p : Names) (expected : Option Entry) (answer : Answer (List ℕ)) → missing_parent tree p ≡ None → is_expected (map.get tree p) expected ≡ true
    → in_folder tree p (where_expected tree p expected answer) ≡ answer
makes tree p expected answer parent e = in_folder_is tree p (where_expected tree p expected answer) parent ∙ where_is tree p expected answer e

-- ---- a creation

-- a creation that is done
pub record IsMade (first : ℕ) (id : ℕ) (s : RootState) (p : Names) (a : Atom) (step : Step) : Type 0 where
  pub answer : Answer (List ℕ)
  pub answered : answer_of s id step.op ≡ answer
  pub lands : (w v : Walk) (f : Cause → Walk) → by_fate w v f (fate_of (Some answer)) ≡ w
  pub here : IsSure first (after s id step.op answer) (Some a) (map.get (after s id step.op answer).tree p)
  pub others : (q : Names) → eq_by_cmp path_cmp q p ≡ false → (is_below q p ≡ true → map.get s.tree q ≡ None) → map.get (after s id step.op answer).tree q ≡ map.get s.tree q
  pub added : List (List ℕ)
  pub contents : (after s id step.op answer).ledger ≡ s.ledger ++ added
  pub staging : (after s id step.op answer).staging ≡ s.staging

module _ (first id : ℕ) (s : RootState) (p : Names) (expected : Option Entry) (late : first ≤ length s.ledger) (parent : missing_parent s.tree p ≡ None) where
  pub makes_dir : is_expected (map.get s.tree p) None ≡ true → (step : Step) → step.op ≡ MakeDir p → IsMade first id s p atom.Dir step
  makes_dir e step is =
      subst (λ (op : Op). IsMade first id s p atom.Dir (record { op = op; line = step.line })) (sym is) (record {
        answer = Done None;
        answered = makes s.tree p None (Done None) parent e;
        lands = λ w v f. refl;
        here = record { left = set_there s.tree p entry.Dir; named = subst (IsNamed s) (sym (set_there s.tree p entry.Dir)) tt };
        others = λ q apart none. set_others s.tree p entry.Dir q apart none;
        added = [];
        contents = sym (append-nil s.ledger);
        staging = refl;
      })

  pub makes_link : (text : List ℕ) → is_expected (map.get s.tree p) expected ≡ true → (step : Step) → step.op ≡ MakeLink p text expected → IsMade first id s p (atom.Link text) step
  makes_link text e step is =
      subst (λ (op : Op). IsMade first id s p (atom.Link text) (record { op = op; line = step.line })) (sym is) (record {
        answer = Done None;
        answered = makes s.tree p expected (Done None) parent e;
        lands = λ w v f. refl;
        here = record { left = set_there s.tree p (entry.Link text); named = subst (IsNamed s) (sym (set_there s.tree p (entry.Link text))) tt };
        others = λ q apart none. set_others s.tree p (entry.Link text) q apart none;
        added = [];
        contents = sym (append-nil s.ledger);
        staging = refl;
      })

  pub makes_file : (digest : List ℕ) (exec : Bool) → is_expected (map.get s.tree p) expected ≡ true → KeepsContent s id digest → (step : Step) → step.op ≡ Place p digest exec expected
      → IsMade first id s p (atom.File digest exec) step
  makes_file digest exec e kept step is =
      subst (λ (op : Op). IsMade first id s p (atom.File digest exec) (record { op = op; line = step.line })) (sym is) (record {
        answer = Done (Some (next_stamp s));
        answered =
            makes s.tree p expected (cond (is_some (kept_by s id digest)) (Done (Some (next_stamp s))) NotStaged) parent e
            ∙ ap (λ (o : Option (List ℕ)). cond (is_some o) (Done (Some (next_stamp s))) NotStaged) kept.kept;
        lands = λ w v f. refl;
        here = record {
          left = record { stamp = next_stamp s; there = set_there s.tree p (entry.File (next_stamp s) exec); late = late; shown = shown };
          named = subst (IsNamed placed) (sym (set_there s.tree p (entry.File (next_stamp s) exec))) (let long = length-append s.ledger (bytes ∷ []) in omega (arith, long));
        };
        others = λ q apart none. set_others s.tree p (entry.File (next_stamp s) exec) q apart none;
        added = bytes ∷ [];
        contents = refl;
        staging = refl;
      })
    where
      bytes : List ℕ
      bytes = unwrap_or (kept_by s id digest) []

      placed : RootState
      placed = done s id (Place p digest exec expected)

      shown : sha256 (content_of placed.ledger (next_stamp s)) ≡ digest
      shown = ap sha256 (get_or-append_seam s.ledger bytes [] []) ∙ ap (λ (o : Option (List ℕ)). sha256 (unwrap_or o [])) kept.kept ∙ kept.is

-- ---- the walk over all creations

module _ (new : ByPath Atom) (at : Names) (part : IsPartOfTree new at) (first id : ℕ) (s : RootState) where
  -- what the walk has made, with these entries left
  pub record Made (es : List (Names × Atom)) (t : RootState) : Type 0 where
    pub here : (q : Names) → is_under q at ≡ true → IsSure first t (if is_among es q then None else map.get new q) (map.get t.tree q)
    pub others : (q : Names) → is_under q at ≡ false → map.get t.tree q ≡ map.get s.tree q
    pub added : List (List ℕ)
    pub contents : t.ledger ≡ s.ledger ++ added
    pub staging : t.staging ≡ s.staging

  module _ (late : first ≤ length s.ledger) (parent : missing_parent s.tree at ≡ None)
      (kept : (p : Names) (digest : List ℕ) (exec : Bool) → map.get new p ≡ Some (atom.File digest exec) → KeepsContent s id digest) where
    record First (e : Names × Atom) (es : List (Names × Atom)) : Type 0 where
      stands : map.get new e.0 ≡ Some e.1
      later : AllByRecursion (λ k. path_cmp e.0 k ≡ Less) (keys_of es)
      covers : Covers new at part (e ∷ es)

    module _ (e : Names × Atom) (es : List (Names × Atom)) (f : First e es) (t : RootState) (m : Made (e ∷ es) t) where
      under : is_under e.0 at ≡ true
      under = part.within e.0 (ap is_some f.stands)

      itself_among : (eq_by_cmp path_cmp e.0 e.0 || is_among es e.0) ≡ true
      itself_among = ap (λ b. b || is_among es e.0) (ap is_eq (tied_itself path_cmp_total e.0))

      -- nothing stands there yet
      empty : map.get t.tree e.0 ≡ None
      empty = sure_none first t (is_among (e ∷ es) e.0) (map.get new e.0) (map.get t.tree e.0) itself_among (m.here e.0 under)

      empty_expected : is_expected (map.get t.tree e.0) None ≡ true
      empty_expected = ap (λ (o : Option Entry). is_expected o None) empty

      -- nor below it
      empty_below : (q : Names) → is_below q e.0 ≡ true → map.get t.tree q ≡ None
      empty_below q below = by (map.get new q) refl
        where
          q_under : is_under q at ≡ true
          q_under = under_through q e.0 at (below_parts q e.0 below).0 under

          by : (o : Option Atom) → map.get new q ≡ o → map.get t.tree q ≡ None
          by None none = sure_nothing first t (is_among (e ∷ es) q) (map.get new q) (map.get t.tree q) none (m.here q q_under)
          by (Some a) stands =
              let among = later_among new at part e es f.covers q a stands below in
              sure_none first t (is_among (e ∷ es) q) (map.get new q) (map.get t.tree q) (or_right (eq_by_cmp path_cmp q e.0) (is_among es q) among) (m.here q q_under)

      -- what comes before the first one isn't among them
      earlier : (r : Names) → path_cmp r e.0 ≡ Less → is_among (e ∷ es) r ≡ false
      earlier r less =
          ap (λ b. b || is_among es r) (ap is_eq less) ∙ not_among r r es (before_all e.0 r es f.later less) refl

      -- a folder stands above it
      folder_there : (found : Option Entry) → found ≡ Some entry.Dir → holds_folder is_dir found ≡ true
      folder_there found is = ap (λ (o : Option Entry). holds_folder is_dir o) is

      dir_of : (o : Option Atom) → holds_folder is_folder o ≡ true → o ≡ Some atom.Dir
      dir_of None h = absurd (no_true false h refl)
      dir_of (Some atom.Dir) h = refl
      dir_of (Some (atom.File digest exec)) h = absurd (no_true false h refl)
      dir_of (Some (atom.Link text)) h = absurd (no_true false h refl)
      dir_of (Some atom.Untracked) h = absurd (no_true false h refl)
      dir_of (Some (atom.Problem kind)) h = absurd (no_true false h refl)

      no_missing : (tree : ByPath Entry) (r : Names) (n : List ℕ) → holds_folder is_dir (map.get tree r) ≡ true → missing_parent tree (r ++ n ∷ []) ≡ None
      no_missing tree r n h =
          ap (λ o. option_and_then (λ q. cond (holds_folder is_dir (map.get tree q)) None (Some (q, map.get tree q))) o) (parent-child r n)
          ∙ ap (λ b. cond b None (Some (r, map.get tree r))) h

      same_missing : (one other : ByPath Entry) (r : Names) (n : List ℕ) → map.get one r ≡ map.get other r → missing_parent other (r ++ n ∷ []) ≡ None → missing_parent one (r ++ n ∷ []) ≡ None
      same_missing one other r n same h =
          ap (λ o. option_and_then (λ q. cond (holds_folder is_dir (map.get one q)) None (Some (q, map.get one q))) o) (parent-child r n)
          ∙ ap (λ (o : Option Entry). cond (holds_folder is_dir o) None (Some (r, o))) same
          ∙ sym (ap (λ o. option_and_then (λ q. cond (holds_folder is_dir (map.get other q)) None (Some (q, map.get other q))) o) (parent-child r n))
          ∙ h

      parent_there : missing_parent t.tree e.0 ≡ None
      parent_there = by (root_or_child e.0)
        where
          child : (r : Names) (n : List ℕ) → e.0 ≡ r ++ n ∷ [] → (b : Bool) → is_under r at ≡ b → missing_parent t.tree (r ++ n ∷ []) ≡ None
          child r n is true up =
              let below : is_below e.0 r ≡ true = ap (λ q. is_below q r) is ∙ child_below r n in
              let folder = dir_of (map.get new r) (part.folders r e.0 (ap is_some f.stands) below up) in
              let made = subst (λ (b : Bool). IsSure first t (if b then None else map.get new r) (map.get t.tree r)) (earlier r (below_is_later e.0 r below)) (m.here r up) in
              let left = (subst (λ (o : Option Atom). IsSure first t o (map.get t.tree r)) folder made).left in
              no_missing t.tree r n (folder_there (map.get t.tree r) left)
          child r n is false up =
              let over = parent_or_child r at n (ap (λ q. is_under q at) (sym is) ∙ under) up in
              let same : at ≡ r ++ n ∷ [] = under_both at (r ++ n ∷ []) over (ap (λ q. is_under q at) (sym is) ∙ under) in
              same_missing t.tree s.tree r n (m.others r up) (ap (missing_parent s.tree) (sym same) ∙ parent)

          by : (e.0 ≡ []) ⊎ ((r : Names) × (n : List ℕ) × (e.0 ≡ r ++ n ∷ [])) → missing_parent t.tree e.0 ≡ None
          by (inl root) = ap (missing_parent t.tree) root
          by (inr c) = ap (missing_parent t.tree) c.2 ∙ child c.0 c.1 c.2 (is_under c.0 at) refl

      grown : first ≤ length t.ledger
      grown = let long = ap length m.contents ∙ length-append s.ledger m.added in omega (arith, late, long)

      still_kept : (digest : List ℕ) → KeepsContent s id digest → KeepsContent t id digest
      still_kept digest k = record { bytes = k.bytes; kept = ap (λ x. map.get (unwrap_or (map.get x id) nothing_staged).kept digest) m.staging ∙ k.kept; is = k.is }

      -- what isn't tracked is passed over
      passed : is_tracked e.1 ≡ false → Made es t
      passed free = record {
        here = λ q u. at_path q u (eq_by_cmp path_cmp q e.0) refl;
        others = m.others;
        added = m.added;
        contents = m.contents;
        staging = m.staging;
      }
        where
          at_path : (q : Names) → is_under q at ≡ true → (b : Bool) → eq_by_cmp path_cmp q e.0 ≡ b → IsSure first t (if is_among es q then None else map.get new q) (map.get t.tree q)
          at_path q u false apart = subst (λ (b : Bool). IsSure first t (if b || is_among es q then None else map.get new q) (map.get t.tree q)) apart (m.here q u)
          at_path q u true same =
              let path_is = tie_is q e.0 same in
              let alone : is_among es q ≡ false = not_among e.0 q es f.later path_is in
              let value : map.get new q ≡ Some e.1 = ap (λ (r : Names). map.get new r) path_is ∙ f.stands in
              let none : map.get t.tree q ≡ None = ap (λ (r : Names). map.get t.tree r) path_is ∙ empty in
              subst (λ (b : Bool). IsSure first t (if b then None else map.get new q) (map.get t.tree q)) (sym alone)
              (subst (λ (o : Option Atom). IsSure first t o (map.get t.tree q)) (sym value) (let_be_leaves first t e.1 (map.get t.tree q) free none))

      -- what is tracked is made
      made : (step : Step) → IsMade first id t e.0 e.1 step → Made es (after t id step.op (answer_of t id step.op))
      made step k = subst (λ (x : Answer (List ℕ)). Made es (after t id step.op x)) (sym k.answered) (record {
        here = λ q u. at_path q u (eq_by_cmp path_cmp q e.0) refl;
        others = λ q out. k.others q (away q out) (λ below. empty_below q below) ∙ m.others q out;
        added = m.added ++ k.added;
        contents = k.contents ∙ ap (λ l. l ++ k.added) m.contents ∙ append_assoc s.ledger m.added k.added;
        staging = k.staging ∙ m.staging;
      })
        where
          away : (q : Names) → is_under q at ≡ false → eq_by_cmp path_cmp q e.0 ≡ false
          away q out = is_false (eq_by_cmp path_cmp q e.0) (λ same. no_true (is_under q at) (ap (λ r. is_under r at) (tie_is q e.0 same) ∙ under) out)

          next : RootState
          next = after t id step.op k.answer

          at_path : (q : Names) → is_under q at ≡ true → (b : Bool) → eq_by_cmp path_cmp q e.0 ≡ b → IsSure first next (if is_among es q then None else map.get new q) (map.get next.tree q)
          at_path q u false apart =
              subst (λ (o : Option Entry). IsSure first next (if is_among es q then None else map.get new q) o) (sym (k.others q apart (λ below. empty_below q below)))
              (sure_grows first t next (if is_among es q then None else map.get new q) (map.get t.tree q) k.added k.contents
              (subst (λ (b : Bool). IsSure first t (if b || is_among es q then None else map.get new q) (map.get t.tree q)) apart (m.here q u)))
          at_path q u true same =
              let path_is = tie_is q e.0 same in
              let alone : is_among es q ≡ false = not_among e.0 q es f.later path_is in
              let value : map.get new q ≡ Some e.1 = ap (λ (r : Names). map.get new r) path_is ∙ f.stands in
              subst (λ (b : Bool). IsSure first next (if b then None else map.get new q) (map.get next.tree q)) (sym alone)
              (subst (λ (o : Option Atom). IsSure first next o (map.get next.tree q)) (sym value)
              (subst (λ (r : Names). IsSure first next (Some e.1) (map.get next.tree r)) (sym path_is) k.here))

      -- the walk over the first one's creation
      abbrev Goes : List Step → Type 0
      Goes steps = (v : RootState) × Made es v × ((rest : List Step) → carry id t [] (steps ++ rest) ≡ carry id v [] rest)

      goes : (step : Step) → IsMade first id t e.0 e.1 step → Goes (step ∷ [])
      goes step k = (
        after t id step.op (answer_of t id step.op),
        made step k,
        λ rest. ap (λ (x : Answer (List ℕ)). by_fate (carry id next [] rest) (record { state = next; undone = [] }) (λ why. carry id next (not_done (Some why) step ∷ []) rest) (fate_of (Some x))) k.answered
            ∙ k.lands (carry id next [] rest) (record { state = next; undone = [] }) (λ why. carry id next (not_done (Some why) step ∷ []) rest),
      )
        where
          next : RootState
          next = after t id step.op (answer_of t id step.op)

      -- the first one's creation, whatever it is
      first_made : Goes (option_to_list (creation None e))
      first_made = by e.1 refl
        where
          making : (a : Atom) → e.1 ≡ a → (step : Step) → IsMade first id t e.0 a step → Goes (step ∷ [])
          making a is step k = goes step (subst (λ (x : Atom). IsMade first id t e.0 x step) (sym is) k)

          skipped : (a : Atom) → e.1 ≡ a → is_tracked a ≡ false → Goes []
          skipped a is free = (t, passed (ap is_tracked is ∙ free), λ rest. refl)

          by : (a : Atom) → e.1 ≡ a → Goes (option_to_list (creation None (e.0, a)))
          by atom.Dir is = making atom.Dir is _ (makes_dir first id t e.0 None grown parent_there empty_expected (record { op = MakeDir e.0; line = Set e.0 atom.Dir }) refl)
          by (atom.File digest exec) is =
              making (atom.File digest exec) is _
              (makes_file first id t e.0 None grown parent_there digest exec empty_expected (still_kept digest (kept e.0 digest exec (f.stands ∙ ap Some is)))
              (record { op = Place e.0 digest exec None; line = Set e.0 (atom.File digest exec) }) refl)
          by (atom.Link text) is =
              making (atom.Link text) is _ (makes_link first id t e.0 None grown parent_there text empty_expected (record { op = MakeLink e.0 text None; line = Set e.0 (atom.Link text) }) refl)
          by atom.Untracked is = skipped atom.Untracked is refl
          by (atom.Problem kind) is = skipped (atom.Problem kind) is refl

    pub record Over (es : List (Names × Atom)) (t : RootState) : Type 0 where
      pub end : RootState
      pub made : Made [] end
      pub goes_on : carry id t [] (filter_map (creation None) es) ≡ record { state = end; undone = [] }

    pub over : (es : List (Names × Atom)) → IsStrictlySortedBy path_cmp (keys_of es) → AllByRecursion (λ e. map.get new e.0 ≡ Some e.1) es → Covers new at part es → (t : RootState) → Made es t → Over es t
    over [] sorted all covers t m = record { end = t; made = m; goes_on = refl }
    over (e ∷ es) sorted all covers t m =
        let later = sorted_head path_cmp e.0 (keys_of es) sorted in
        let one = first_made e es (record { stands = all.0; later = later; covers = covers }) t m in
        let behind = over es (sorted_tail path_cmp e.0 (keys_of es) sorted) all.1 (covers_rest new at part e es later covers) one.0 one.1 in
        record {
          end = behind.end;
          made = behind.made;
          goes_on = ap (λ (steps : List Step). carry id t [] steps) (in_front (creation None e) (filter_map (creation None) es)) ∙ one.2 (filter_map (creation None) es) ∙ behind.goes_on;
        }
      where
        in_front : (o : Option Step) (steps : List Step) → cons_option o steps ≡ option_to_list o ++ steps
        in_front None steps = refl
        in_front (Some step) steps = refl
