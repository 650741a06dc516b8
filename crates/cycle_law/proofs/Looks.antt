-- A state agrees with its look.
use Rattle.std.proofs.Common.{◌≡◌, ◌⊎◌, inl, inr, ℕ, ◌<◌, ◌+◌, zero, suc, Bool, true, false, cond, not, ◌&&◌, List, [], ◌∷◌, ◌++◌, length, nat_lt, refl, sym, ap, subst, ◌∙◌, Option, Some, None, option_map, option_and_then, arith}
use Rattle.std.specs.FinMap as map
use Rattle.std.specs.Option.{is_some}
use Rattle.std.proofs.lemmas.Bool.{and_parts}
use Rattle.std.proofs.lemmas.List.{length-append}
use Rattle.sha2.specs.Sha256.{sha256}
use Rattle.finite_maps.proofs.Constructors.{none_is_not_some, some_same}
use Rattle.sync_path.specs.Path.{is_under, is_below, parent_of}
use Rattle.entry_tree.specs.Atom.{is_dir, is_tracked}
use Rattle.entry_tree.specs.Entry.{is_dir as is_folder}
use Rattle.entry_tree.specs.Subtree.{subtree}
use Rattle.entry_tree.specs.Tree.{Names, ByPath, IsClosed, holds_folder}
use Rattle.entry_tree.specs.declared.atom.Atom.{Atom}
use Rattle.entry_tree.specs.declared.atom.Atom.TheVariants as atom
use Rattle.entry_tree.specs.declared.entry.Entry.{Entry}
use Rattle.entry_tree.specs.declared.entry.Entry.TheVariants as entry
use Rattle.entry_tree.specs.declared.entry.Stamp.{Stamp}
use Rattle.entry_tree.specs.declared.problem_kind.ProblemKind.TheVariants as problem
use Rattle.entry_tree.proofs.Paths.{child_below, below_child}
use Rattle.entry_tree.proofs.Trees.{parent-child, root_or_child}
use Rattle.ignore_glob.specs.Grammar.{Meaning}
use Rattle.mode_rules.proofs.Below.{under_both, below_is_under, parent_or_child, folder_above}
use Rattle.mode_rules.proofs.Changing.{get-subtree-any}
use Rattle.roots_api.specs.States.{RootState, content_of}
use Rattle.scan_core.specs.Board.{left_alone}
use Rattle.scan_core.specs.Ignoring.{ignores}
use Rattle.scan_laws.specs.Look.{is_reached, look_as, look_atom}
use Rattle.transition_laws.specs.Undisturbed.{Agrees, StandsFor, is_beneath_let_be, is_let_be}
use Rattle.cycle_law.specs.LookLaws.{IsItsLook, IsInFolder, StateAgreesWithLook, LookIsTree, HiddenIsBelowUntracked}
use Rattle.cycle_law.specs.Saw.{stamp_seen}
use Rattle.cycle_law.proofs.Reached.{any_there, reached_child}

given_some : {X : Type 0} (P : Type 0) (o : Option X) → is_some o ≡ true → ((x : X) → o ≡ Some x → P) → P
given_some P None h each = absurd (cc)
given_some P (Some x) h each = each x refl

nothing_there : {X : Type 0} (o : Option X) → ((x : X) → o ≡ Some x → ⊥) → o ≡ None
nothing_there None f = refl
nothing_there (Some x) f = absurd (f x refl)

folder_is : (o : Option Entry) → holds_folder is_folder o ≡ true → o ≡ Some entry.Dir
folder_is None h = absurd (cc)
folder_is (Some entry.Dir) h = refl
folder_is (Some (entry.File stamp exec)) h = absurd (cc)
folder_is (Some (entry.Link text)) h = absurd (cc)
folder_is (Some entry.Other) h = absurd (cc)

dir_is : (o : Option Atom) → holds_folder is_dir o ≡ true → o ≡ Some atom.Dir
dir_is None h = absurd (cc)
dir_is (Some atom.Dir) h = refl
dir_is (Some (atom.File digest exec)) h = absurd (cc)
dir_is (Some (atom.Link text)) h = absurd (cc)
dir_is (Some atom.Untracked) h = absurd (cc)
dir_is (Some (atom.Problem kind)) h = absurd (cc)

module _ (s : RootState) (rules : List Meaning) (size : ℕ) (tree : ByPath Atom) (stamps : ByPath Stamp) (its : IsItsLook s rules size tree stamps) where
  -- ---- what is shown

  record Shown (p : Names) (a : Atom) : Type 0 where
    pub reached : is_reached rules p ≡ true
    pub found : Entry
    pub there : map.get s.tree p ≡ Some found
    pub shown : look_atom s rules size p found ≡ a

  shown_by : (p : Names) (a : Atom) (b : Bool) (o : Option Entry) → is_reached rules p ≡ b → map.get s.tree p ≡ o → cond b (option_map (look_atom s rules size p) o) None ≡ Some a → Shown p a
  shown_by p a false o r t h = absurd (none_is_not_some a h)
  shown_by p a true None r t h = absurd (none_is_not_some a h)
  shown_by p a true (Some e) r t h = record { reached = r; found = e; there = t; shown = some_same (look_atom s rules size p e) a h }

  shown_at : (p : Names) (a : Atom) → map.get tree p ≡ Some a → Shown p a
  shown_at p a h = shown_by p a (is_reached rules p) (map.get s.tree p) refl refl (sym (its.look p) ∙ h)

  -- what stands at a path that is reached is shown
  shows : (p : Names) (e : Entry) → is_reached rules p ≡ true → map.get s.tree p ≡ Some e → map.get tree p ≡ Some (look_atom s rules size p e)
  shows p e reached there = its.look p ∙ (λ i. cond (reached i) (option_map (look_atom s rules size p) (there i)) None)

  -- ---- what is tracked

  file_stands : (p : Names) (stamp : Stamp) (exec : Bool) (digest : List ℕ) → digest ≡ sha256 (content_of s.ledger stamp) → map.get s.tree p ≡ Some (entry.File stamp exec) → (b : Bool)
      → is_tracked (cond b (atom.Problem problem.TooLarge) (atom.File digest exec)) ≡ true → map.get tree p ≡ Some (cond b (atom.Problem problem.TooLarge) (atom.File digest exec))
      → StandsFor s stamps p (cond b (atom.Problem problem.TooLarge) (atom.File digest exec))
  file_stands p stamp exec digest is there true tracked h = absurd (cc)
  file_stands p stamp exec digest is there false tracked h = record {
    found = entry.File stamp exec;
    there = there;
    expected = ap (option_map (λ (t : Stamp). entry.File t exec)) (its.stamped p ∙ (λ i. stamp_seen (h i) (there i)));
    shown = ap (λ d. atom.File d exec) (sym is);
  }

  stands_as : (p : Names) (e : Entry) → map.get s.tree p ≡ Some e → is_tracked (look_as s rules size e) ≡ true → map.get tree p ≡ Some (look_as s rules size e) → StandsFor s stamps p (look_as s rules size e)
  stands_as p entry.Dir there tracked h = record { found = entry.Dir; there = there; expected = refl; shown = refl }
  stands_as p (entry.File stamp exec) there tracked h = file_stands p stamp exec (sha256 (content_of s.ledger stamp)) refl there (nat_lt size (length (content_of s.ledger stamp))) tracked h
  stands_as p (entry.Link text) there tracked h = record { found = entry.Link text; there = there; expected = refl; shown = refl }
  stands_as p entry.Other there tracked h = absurd (cc)

  tracked_stands : (p : Names) (a : Atom) → map.get tree p ≡ Some a → is_tracked a ≡ true → StandsFor s stamps p a
  tracked_stands p a h tracked = let sh = shown_at p a h in by sh.found sh.there (left_alone rules p sh.found) refl sh.shown
    where
      by : (e : Entry) → map.get s.tree p ≡ Some e → (b : Bool) → left_alone rules p e ≡ b → cond b atom.Untracked (look_as s rules size e) ≡ a → StandsFor s stamps p a
      by e there true alone is = let clash : false ≡ true = ap is_tracked is ∙ tracked in absurd (cc)
      by e there false alone is = subst (StandsFor s stamps p) is (stands_as p e there (ap is_tracked is ∙ tracked) (h ∙ ap (λ x. Some x) (sym is)))

  -- ---- folders

  -- a folder that is shown is one, is reached, and isn't ignored
  record IsFollowed (p : Names) : Type 0 where
    pub reached : is_reached rules p ≡ true
    pub there : map.get s.tree p ≡ Some entry.Dir
    pub followed : ignores rules p true ≡ false

  content_no_dir : (b : Bool) (digest : List ℕ) (exec : Bool) → cond b (atom.Problem problem.TooLarge) (atom.File digest exec) ≡ atom.Dir → ⊥
  content_no_dir true digest exec h = let clash : false ≡ true = ap is_dir h in cc
  content_no_dir false digest exec h = let clash : false ≡ true = ap is_dir h in cc

  followed_as : (p : Names) (e : Entry) → is_reached rules p ≡ true → map.get s.tree p ≡ Some e → (b : Bool) → left_alone rules p e ≡ b → cond b atom.Untracked (look_as s rules size e) ≡ atom.Dir → IsFollowed p
  followed_as p e reached there true alone h = let clash : false ≡ true = ap is_dir h in absurd (cc)
  followed_as p entry.Dir reached there false alone h = record { reached = reached; there = there; followed = alone }
  followed_as p (entry.File stamp exec) reached there false alone h = absurd (content_no_dir (nat_lt size (length (content_of s.ledger stamp))) (sha256 (content_of s.ledger stamp)) exec h)
  followed_as p (entry.Link text) reached there false alone h = let clash : false ≡ true = ap is_dir h in absurd (cc)
  followed_as p entry.Other reached there false alone h = let clash : false ≡ true = ap is_dir h in absurd (cc)

  followed_at : (p : Names) → map.get tree p ≡ Some atom.Dir → IsFollowed p
  followed_at p h = let sh = shown_at p atom.Dir h in followed_as p sh.found sh.reached sh.there (left_alone rules p sh.found) refl sh.shown

  -- a folder that stands at a path that is reached is shown so, or as untracked
  folder_shows : (p : Names) (b : Bool) → is_reached rules p ≡ true → map.get s.tree p ≡ Some entry.Dir → ignores rules p true ≡ b → map.get tree p ≡ Some (cond b atom.Untracked atom.Dir)
  folder_shows p b reached there ignored = shows p entry.Dir reached there ∙ ap (λ c. Some (cond c atom.Untracked atom.Dir)) ignored

  stands_in : (f : Names) (n : List ℕ) → is_some (map.get s.tree (f ++ n ∷ [])) ≡ true → map.get s.tree f ≡ Some entry.Dir
  stands_in f n h = folder_is (map.get s.tree f) (its.closed f n h)

  pub look_closed : IsClosed is_dir tree
  look_closed f n h = given_some (holds_folder is_dir (map.get tree f) ≡ true) (map.get tree (f ++ n ∷ [])) h (λ a is.
      let sh = shown_at (f ++ n ∷ []) a is in
      let both = and_parts (is_reached rules f) (not (ignores rules f true)) (sym (reached_child rules f n) ∙ sh.reached) in
      by (ignores rules f true) refl both.0 both.1 (stands_in f n (ap is_some sh.there)))
    where
      by : (b : Bool) → ignores rules f true ≡ b → is_reached rules f ≡ true → not b ≡ true → map.get s.tree f ≡ Some entry.Dir → holds_folder is_dir (map.get tree f) ≡ true
      by true e reached followed there = absurd (cc)
      by false e reached followed there = ap (holds_folder is_dir) (folder_shows f false reached there e)

  -- ---- below a path in a folder

  module _ (at : Names) (in_folder : IsInFolder tree at) where
    -- something that isn't tracked is shown above a path, at or below the other one
    pub record Hidden (p : Names) : Type 0 where
      pub above : Names
      pub below : is_below p above ≡ true
      pub within : is_under above at ≡ true
      pub shown : map.get tree above ≡ Some atom.Untracked

    abbrev pub Found : Names → Type 0
    Found p = (is_reached rules p ≡ true) ⊎ Hidden p

    followed_child : (f : Names) (n : List ℕ) → is_reached rules f ≡ true → ignores rules f true ≡ false → is_reached rules (f ++ n ∷ []) ≡ true
    followed_child f n reached followed = reached_child rules f n ∙ (λ i. reached i && not (followed i))

    found_child : (f : Names) (n : List ℕ) → (is_under f at ≡ true → is_some (map.get s.tree f) ≡ true → Found f)
        → is_under (f ++ n ∷ []) at ≡ true → is_some (map.get s.tree (f ++ n ∷ [])) ≡ true → Found (f ++ n ∷ [])
    found_child f n above under stands = by_place (is_under f at) refl
      where
        in_it : (b : Bool) → ignores rules f true ≡ b → is_under f at ≡ true → is_reached rules f ≡ true → Found (f ++ n ∷ [])
        in_it true e up reached = inr (record { above = f; below = child_below f n; within = up; shown = folder_shows f true reached (stands_in f n stands) e })
        in_it false e up reached = inl (followed_child f n reached e)

        behind : is_under f at ≡ true → Found f → Found (f ++ n ∷ [])
        behind up (inl reached) = in_it (ignores rules f true) refl up reached
        behind up (inr hidden) = inr (record { above = hidden.above; below = below_child f hidden.above n hidden.below; within = hidden.within; shown = hidden.shown })

        by_place : (b : Bool) → is_under f at ≡ b → Found (f ++ n ∷ [])
        by_place true up = behind up (above up (ap is_some (stands_in f n stands)))
        by_place false up =
            let same : at ≡ f ++ n ∷ [] = under_both at (f ++ n ∷ []) (parent_or_child f at n under up) under in
            let folder = followed_at f (dir_is (map.get tree f) (in_folder f (ap parent_of same ∙ parent-child f n))) in
            inl (followed_child f n folder.reached folder.followed)

    found_all : (k : ℕ) (p : Names) → length p < k → is_under p at ≡ true → is_some (map.get s.tree p) ≡ true → Found p
    found_all zero p short = absurd (omega arith)
    found_all (suc k) p short = by (λ f. found_all k f) (root_or_child p)
      where
        by : ((f : Names) → length f < k → is_under f at ≡ true → is_some (map.get s.tree f) ≡ true → Found f)
            → (p ≡ []) ⊎ ((f : Names) × (n : List ℕ) × (p ≡ f ++ n ∷ [])) → is_under p at ≡ true → is_some (map.get s.tree p) ≡ true → Found p
        by shorter (inl root) = λ under stands. inl (ap (is_reached rules) root)
        by shorter (inr child) =
            let sizes : length p ≡ length child.0 + 1 = ap length child.2 ∙ length-append child.0 (child.1 ∷ []) in
            subst (λ (q : Names). is_under q at ≡ true → is_some (map.get s.tree q) ≡ true → Found q) (sym child.2) (found_child child.0 child.1 (shorter child.0 (omega arith)))

    pub found : (p : Names) → is_under p at ≡ true → is_some (map.get s.tree p) ≡ true → Found p
    found p = found_all (suc (length p)) p (omega arith)

    hidden_below : (p : Names) (h : Hidden p) (part : ByPath Atom) → map.get part h.above ≡ Some atom.Untracked → is_beneath_let_be part p ≡ true
    hidden_below p h part shown = any_there (λ (e : Names × Atom). is_let_be e && is_below p e.0) part h.above atom.Untracked shown h.below

    -- ---- the part of a tree

    within_part : (p : Names) (a : Atom) → map.get (subtree tree at) p ≡ Some a → (is_under p at ≡ true) × (map.get tree p ≡ Some a)
    within_part p a h = by (is_under p at) refl (sym (get-subtree-any tree at p) ∙ h)
      where
        by : (b : Bool) → is_under p at ≡ b → cond b (map.get tree p) None ≡ Some a → (is_under p at ≡ true) × (map.get tree p ≡ Some a)
        by true e is = (e, is)
        by false e is = absurd (none_is_not_some a is)

    part_at : (p : Names) → is_under p at ≡ true → map.get (subtree tree at) p ≡ map.get tree p
    part_at p under = get-subtree-any tree at p ∙ ap (λ b. cond b (map.get tree p) None) under

    parent_there : (o : Option Names) → parent_of at ≡ o → option_and_then {U = Names × Option Entry} (λ parent. cond (holds_folder is_folder (map.get s.tree parent)) None (Some (parent, map.get s.tree parent))) o ≡ None
    parent_there None e = refl
    parent_there (Some q) e = let folder = followed_at q (dir_is (map.get tree q) (in_folder q e)) in ap (λ (x : Option Entry). cond (holds_folder is_folder x) None (Some (q, x))) folder.there

    pub agrees : Agrees s stamps (subtree tree at) at
    agrees = record {
      tracked = λ p a h tracked. tracked_stands p a (within_part p a h).1 tracked;
      let_be = λ p a h alone. ap is_some (shown_at p a (within_part p a h).1).there;
      nothing = λ p under none clear. nothing_there (map.get s.tree p) (λ e there. by p under none clear e there (found p under (ap is_some there)));
      parent = parent_there (parent_of at) refl;
    }
      where
        by : (p : Names) → is_under p at ≡ true → map.get (subtree tree at) p ≡ None → is_beneath_let_be (subtree tree at) p ≡ false → (e : Entry) → map.get s.tree p ≡ Some e → Found p → ⊥
        by p under none clear e there (inl reached) = none_is_not_some (look_atom s rules size p e) (sym none ∙ part_at p under ∙ shows p e reached there)
        by p under none clear e there (inr hidden) =
            let clash : true ≡ false = sym (hidden_below p hidden (subtree tree at) (part_at hidden.above hidden.within ∙ hidden.shown)) ∙ clear in cc

pub state_agrees : StateAgreesWithLook
state_agrees s rules size tree stamps its at in_folder = agrees s rules size tree stamps its at in_folder

pub look_is_tree : LookIsTree
look_is_tree s rules size tree stamps its at = record {
  within = λ p some. given_some (is_under p at ≡ true) (map.get (subtree tree at) p) some (λ a h. part p a h);
  folders = λ p r some below under. given_some (holds_folder is_dir (map.get (subtree tree at) p) ≡ true) (map.get (subtree tree at) r) some
      (λ a h. let lies = and_parts (is_under r p) (not (is_under p r)) (sym (below_is_under r p) ∙ below) in
      ap (holds_folder is_dir) (get-subtree-any tree at p ∙ ap (λ b. cond b (map.get tree p) None) under)
      ∙ folder_above tree (look_closed s rules size tree stamps its) r p lies.0 (apart (is_under p r) lies.1) (some_whole r a h));
}
  where
    part : (p : Names) (a : Atom) → map.get (subtree tree at) p ≡ Some a → is_under p at ≡ true
    part p a h = by (is_under p at) (sym (get-subtree-any tree at p) ∙ h)
      where
        by : (b : Bool) → cond b (map.get tree p) None ≡ Some a → b ≡ true
        by true is = refl
        by false is = absurd (none_is_not_some a is)

    some_whole : (r : Names) (a : Atom) → map.get (subtree tree at) r ≡ Some a → is_some (map.get tree r) ≡ true
    some_whole r a h = by (is_under r at) (sym (get-subtree-any tree at r) ∙ h)
      where
        by : (b : Bool) → cond b (map.get tree r) None ≡ Some a → is_some (map.get tree r) ≡ true
        by true is = ap is_some is
        by false is = absurd (none_is_not_some a is)

    apart : (b : Bool) → not b ≡ true → b ≡ false
    apart true h = absurd (cc)
    apart false h = refl

pub hidden_is_below : HiddenIsBelowUntracked
hidden_is_below s rules size tree stamps its p stands none = given_some (is_beneath_let_be tree p ≡ true) (map.get s.tree p) stands (λ e there. by e there (found s rules size tree stamps its [] in_root p refl stands))
  where
    in_root : IsInFolder tree []
    in_root parent is = absurd (none_is_not_some parent is)

    by : (e : Entry) → map.get s.tree p ≡ Some e → Found s rules size tree stamps its [] in_root p → is_beneath_let_be tree p ≡ true
    by e there (inl reached) = absurd (none_is_not_some (look_atom s rules size p e) (sym none ∙ shows s rules size tree stamps its p e reached there))
    by e there (inr hidden) = hidden_below s rules size tree stamps its [] in_root p hidden tree hidden.shown
