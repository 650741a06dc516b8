-- Points: which paths are decided on their own, and which point decides what stands at a path.
use Rattle.std.proofs.Common.{◌≡◌, Bool, true, false, not, ◌||◌, List, [], ◌∷◌, refl, sym, ap, ◌∙◌, inl, inr, Option, Some, None}
use Rattle.std.specs.Prelude.{◌&&◌, ◌⊎◌}
use Rattle.std.specs.FinMap as trees
use Rattle.std.specs.List.{list_all, list_any, AllByRecursion}
use Rattle.std.specs.List.Sorted.{IsStrictlySortedBy}
use Rattle.std.specs.Option.{is_some}
use Rattle.std.specs.Ordering.{is_eq, eq_by_cmp}
use Rattle.std.proofs.lemmas.Bool.{and_parts, and_from, or_cases, or_left, or_right}
use Rattle.std.proofs.lemmas.Cmp.{tied_itself}
use Rattle.finite_maps.proofs.SortedLists.{sorted-from_is_sorted}
use Rattle.sync_path.specs.Path.{path_cmp, is_under, is_below}
use Rattle.sync_path.specs.PathOrder.{path_cmp_total}
use Rattle.entry_tree.specs.Tree.{Names}
use Rattle.entry_tree.specs.declared.atom.Atom.{Atom}
use Rattle.entry_tree.proofs.Trees.{tie_is}
use Rattle.mode_rules.specs.declared.mode.Mode.{Mode}
use Rattle.mode_rules.specs.declared.verdict.Verdict.TheVariants as verdicts
use Rattle.mode_rules.specs.ChangeLaws.{AreClosed}
use Rattle.mode_rules.specs.Trees.{Trees, paths_of, is_point, is_in_folders, holds_folder}
use Rattle.mode_rules.specs.Verdicts.{verdict}
use Rattle.mode_rules.proofs.Below.{under_both, below_is_under, one_is_under, folder_above, folders, Decider}
use Rattle.mode_rules.proofs.Cases.{folders_agree}
use Rattle.mode_rules.proofs.Held.{has_path, has_alphas, has_betas}

-- the path is among those of the trees
abbrev pub IsAmong : Trees → Names → Type 0
IsAmong t p = list_any (eq_by_cmp path_cmp p) (paths_of t) ≡ true

-- the paths of the trees rise
pub paths_sorted : (t : Trees) → IsStrictlySortedBy path_cmp (paths_of t)
paths_sorted t = sorted-from_is_sorted path_cmp _ (trees.entries_sorted (trees.from_entries _))

more_among : (x : Names) (ps qs : List Names) → AllByRecursion (λ p. list_any (eq_by_cmp path_cmp p) ps ≡ true) qs → AllByRecursion (λ p. list_any (eq_by_cmp path_cmp p) (x ∷ ps) ≡ true) qs
more_among x ps [] h = tt
more_among x ps (q ∷ qs) h = (or_right (eq_by_cmp path_cmp q x) _ h.0, more_among x ps qs h.1)

-- each path of a list is among them
all_among : (ps : List Names) → AllByRecursion (λ p. list_any (eq_by_cmp path_cmp p) ps ≡ true) ps
all_among [] = tt
all_among (p ∷ ps) = (or_left (eq_by_cmp path_cmp p p) _ (ap is_eq (tied_itself path_cmp_total p)), more_among p ps ps (all_among ps))

pub each_among : (t : Trees) → AllByRecursion (IsAmong t) (paths_of t)
each_among t = all_among (paths_of t)

-- what a test says of each item it says of one among them
pub all_says : (f : Names → Bool) (q : Names) (ps : List Names) → list_any (eq_by_cmp path_cmp q) ps ≡ true → list_all f ps ≡ true → f q ≡ true
all_says f q [] has h = absurd (cc)
all_says f q (p ∷ ps) has h =
    let both = and_parts (f p) (list_all f ps) h in
    elim (or_cases (eq_by_cmp path_cmp q p) (list_any (eq_by_cmp path_cmp q) ps) has) [
      | inl here ↦ ap f (tie_is q p here) ∙ both.0
      | inr later ↦ all_says f q ps later both.1
    ]

module _ (t : Trees) where
  -- A path is a folder on both sides, and doesn't lie at or below another.
  pub record Over (p at : Names) : Type 0 where
    pub folder : folders t p ≡ true
    pub outside : is_under p at ≡ false

  -- above a point, each path that is among those of the trees is a folder on both sides
  pub point_lets : (p at : Names) → is_point t p ≡ true → IsAmong t at → is_under p at ≡ true → is_under at p ≡ false → folders t at ≡ true
  unfolding is_in_folders
  point_lets p at point has up down =
      let each : (not (is_below p at) || folders t at) ≡ true = all_says (λ x. not (is_below p x) || folders t x) at (paths_of t) has point in
      (λ i. not (sym up i && not (sym down i)) || folders t at) ∙ ap (λ b. not b || folders t at) (sym (below_is_under p at)) ∙ each

  -- a folder on both sides is agreed on
  pub folder_agrees : (mode : Mode) (p : Names) → folders t p ≡ true → verdict mode t p ≡ verdicts.Agreed
  folder_agrees mode p e = folders_agree mode _ _ _ _ e

  pub has_ancestors : (q : Names) → trees.contains_key t.ancestor q ≡ true → IsAmong t q
  has_ancestors q h = has_path t q ∙ or_left _ (trees.contains_key t.beta q) (or_left _ (trees.contains_key t.alpha q) h)

  pub some_among : (q : Names) → (is_some (trees.get t.alpha q) || is_some (trees.get t.beta q)) ≡ true → IsAmong t q
  some_among q h = elim (or_cases _ _ h) [ inl of_alpha ↦ has_alphas t q of_alpha | inr of_beta ↦ has_betas t q of_beta ]

  some_there : (o : Option Atom) → holds_folder o ≡ true → is_some o ≡ true
  some_there None h = absurd (cc)
  some_there (Some x) h = refl

  module _ (closed : AreClosed t) where
    -- above a path that is among those of closed trees, each path is
    pub among_above : (q at : Names) → IsAmong t q → is_under q at ≡ true → is_under at q ≡ false → IsAmong t at
    among_above q at has up down =
        elim (or_cases _ (trees.contains_key t.beta q) (sym (has_path t q) ∙ has)) [
          | inl first ↦ elim (or_cases (trees.contains_key t.ancestor q) (trees.contains_key t.alpha q) first) [
            | inl a ↦ has_ancestors at (some_there _ (folder_above t.ancestor closed.ancestor q at up down a))
            | inr l ↦ has_alphas t at (some_there _ (folder_above t.alpha closed.alpha q at up down l))
          ]
          | inr r ↦ has_betas t at (some_there _ (folder_above t.beta closed.beta q at up down r))
        ]

    -- above a point each path is a folder on both sides
    pub clear_above : (p : Names) → is_point t p ≡ true → IsAmong t p → (x : Names) → is_under p x ≡ true → is_under x p ≡ false → folders t x ≡ true
    clear_above p point has x up down = point_lets p x point (among_above p x has up down) up down

    -- a point decides its own path, and what lies below it where it isn't a folder on both sides
    abbrev pub decides : (p q : Names) → is_point t p ≡ true → IsAmong t p → is_under q p ≡ true → (p ≡ q) ⊎ (folders t p ≡ false) → Decider t q
    decides p q point has under stop = record { at = p; under = under; clear = clear_above p point has; stop = stop }

    module _ (q : Names) (d : Decider t q) where
      -- the points at and above a path are the one that decides it, and folders above that
      pub one_point : (p : Names) → is_point t p ≡ true → IsAmong t p → is_under q p ≡ true → (p ≡ d.at) ⊎ Over p d.at
      one_point p point has under = by (is_under d.at p) (is_under p d.at) refl refl
        where
          beyond : is_under d.at p ≡ false → is_under p d.at ≡ true → (d.at ≡ q) ⊎ (folders t d.at ≡ false) → ⊥
          beyond down up (inl here) = let no : true ≡ false = sym under ∙ ap (λ x. is_under x p) (sym here) ∙ down in cc
          beyond down up (inr stops) = let no : true ≡ false = sym (point_lets p d.at point (among_above p d.at has up down) up down) ∙ stops in cc

          by : (a b : Bool) → is_under d.at p ≡ a → is_under p d.at ≡ b → (p ≡ d.at) ⊎ Over p d.at
          by true true e f = inl (under_both p d.at f e)
          by true false e f = inr (record { folder = d.clear p e f; outside = f })
          by false b e f = absurd (beyond e (one_is_under q d.at p d.under under e) d.stop)

all_true : (f : Names → Bool) → ((p : Names) → f p ≡ true) → (ps : List Names) → list_all f ps ≡ true
all_true f each [] = refl
all_true f each (p ∷ ps) = and_from (f p) (list_all f ps) (each p) (all_true f each ps)

-- the path that decides another is a point
pub decider_is_point : (t : Trees) (q : Names) (d : Decider t q) → is_point t d.at ≡ true
unfolding is_in_folders
decider_is_point t q d = all_true _ (λ p. by p (is_under d.at p) (is_under p d.at) refl refl) (paths_of t)
  where
    by : (p : Names) (a b : Bool) → is_under d.at p ≡ a → is_under p d.at ≡ b → (not (is_below d.at p) || folders t p) ≡ true
    by p true false e f = or_right (not (is_below d.at p)) (folders t p) (d.clear p e f)
    by p true true e f = ap (λ b. not b || folders t p) (below_is_under d.at p) ∙ ap (λ b. not (is_under d.at p && not b) || folders t p) f ∙ ap (λ b. not (b && false) || folders t p) e
    by p false b e f = ap (λ b. not b || folders t p) (below_is_under d.at p) ∙ ap (λ b. not (b && not (is_under p d.at)) || folders t p) e
