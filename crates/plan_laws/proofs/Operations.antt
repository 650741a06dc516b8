-- The lines of a change's operations: what they give, what they pass over, and that they can be taken up.
use Rattle.std.proofs.Common.{◌≡◌, Bool, true, false, cond, not, ◌||◌, List, [], ◌∷◌, ◌++◌, reverse, refl, sym, ap, subst, ◌∙◌, Option, Some, None}
use Rattle.std.specs.Prelude.{◌&&◌}
use Rattle.std.specs.FinMap as trees
use Rattle.std.specs.List.{filter_map, AllByRecursion}
use Rattle.std.specs.Option.{is_some, option_map, option_to_list}
use Rattle.std.specs.Ordering.{is_eq, eq_by_cmp}
use Rattle.std.proofs.lemmas.Bool.{and_parts}
use Rattle.std.proofs.lemmas.Cmp.{tied_itself}
use Rattle.std.proofs.lemmas.List.{reverse-append}
use Rattle.finite_maps.proofs.Constructors.{none_is_not_some, some_same}
use Rattle.sync_path.specs.Path.{path_cmp, is_under, is_below}
use Rattle.sync_path.specs.PathOrder.{path_cmp_total}
use Rattle.entry_tree.specs.Atom.{is_dir, is_tracked}
use Rattle.entry_tree.specs.Subtree.{subtree}
use Rattle.entry_tree.specs.Tree.{Names, ByPath, IsClosed, without_under}
use Rattle.entry_tree.specs.declared.atom.Atom.{Atom}
use Rattle.entry_tree.specs.declared.atom.Atom.TheVariants.{Dir, File, Link, Untracked, Problem}
use Rattle.entry_tree.proofs.Paths.{under_itself}
use Rattle.mode_rules.specs.declared.ancestor_line.AncestorLine.{AncestorLine}
use Rattle.mode_rules.specs.declared.ancestor_line.AncestorLine.TheVariants as lines
use Rattle.mode_rules.specs.declared.change.Change.{Change}
use Rattle.mode_rules.specs.Laws.{HoldsOnlyTracked}
use Rattle.mode_rules.specs.Trees.{holds_folder}
use Rattle.mode_rules.proofs.After.{get-subtree}
use Rattle.mode_rules.proofs.Agreeing.{untouched, let_set}
use Rattle.mode_rules.proofs.Below.{under_both, under_through, folder_above}
use Rattle.mode_rules.proofs.Changing.{get-subtree-any}
use Rattle.plan_laws.specs.Settling.{is_leaf, drop_line, set_line, operation_lines}
use Rattle.plan_laws.proofs.Values.{value, Takes, Passes, get-with_lines, takes-append, takes-first, value-append, value-passed}
use Rattle.plan_laws.proofs.Sets.{Rooted, maps_all, entries_stand, sets_give, sets_pass, sets_taken}

-- ---- subtrees

subtree_value : (tree : ByPath Atom) (at q : Names) (x : Atom) → trees.get (subtree tree at) q ≡ Some x → (is_under q at ≡ true) × (trees.get tree q ≡ Some x)
subtree_value tree at q x is = by (is_under q at) refl (sym (get-subtree-any tree at q) ∙ is)
  where
    by : (b : Bool) → is_under q at ≡ b → cond (is_under q at) (trees.get tree q) None ≡ Some x → (is_under q at ≡ true) × (trees.get tree q ≡ Some x)
    by true e is = (e, sym (ap (λ b. cond b (trees.get tree q) None) e) ∙ is)
    by false e is = absurd (none_is_not_some x (sym (ap (λ b. cond b (trees.get tree q) None) e) ∙ is))

given_some : {X : Type 0} (P : Type 0) (o : Option X) → is_some o ≡ true → ((x : X) → o ≡ Some x → P) → P
given_some P None h each = let no : false ≡ true = h in absurd (cc)
given_some P (Some x) h each = each x refl

pub subtree_rooted : (tree : ByPath Atom) → IsClosed is_dir tree → HoldsOnlyTracked tree → (at : Names) → Rooted (subtree tree at) at
subtree_rooted tree closed tracked at = record {
  within = λ q x is. (subtree_value tree at q x is).0;
  folders = λ q p some up down within.
      given_some (holds_folder (trees.get (subtree tree at) p) ≡ true) (trees.get (subtree tree at) q) some
      (λ x is. ap holds_folder (get-subtree tree at p within) ∙ folder_above tree closed q p up down (ap is_some (subtree_value tree at q x is).1));
  tracked = λ q x is. tracked q x (subtree_value tree at q x is).1;
}

pub empty_rooted : (at : Names) → Rooted trees.empty at
empty_rooted at = record {
  within = λ q x is. absurd (none_is_not_some x (sym (trees.get-empty path_cmp q) ∙ is));
  folders = λ q p some up down within. let no : false ≡ true = sym (ap is_some (trees.get-empty path_cmp q)) ∙ some in absurd (cc);
  tracked = λ q x is. absurd (none_is_not_some x (sym (trees.get-empty path_cmp q) ∙ is));
}

-- ---- removals

abbrev Drops : AncestorLine → Type 0
Drops (lines.Set path atom) = ⊥
Drops (lines.Drop path) = Unit {0}

drop_of_entry : (e : Names × Atom) (l : AncestorLine) → drop_line e ≡ Some l → l ≡ lines.Drop e.0
drop_of_entry e l is = by (is_tracked e.1) is
  where
    by : (b : Bool) → cond b (Some (lines.Drop e.0)) None ≡ Some l → l ≡ lines.Drop e.0
    by true is = sym (some_same _ l is)
    by false is = absurd (none_is_not_some l is)

both_pass : {X : Type 0} (P : X → Type 0) (xs ys : List X) → AllByRecursion P xs → AllByRecursion P ys → AllByRecursion P (xs ++ ys)
both_pass P [] ys all rest = rest
both_pass P (x ∷ xs) ys all rest = (all.0, both_pass P xs ys all.1 rest)

all_reversed : {X : Type 0} (P : X → Type 0) (xs : List X) → AllByRecursion P xs → AllByRecursion P (reverse xs)
all_reversed P [] all = tt
all_reversed P (x ∷ xs) all = subst (AllByRecursion P) (sym (reverse-append (x ∷ []) xs)) (both_pass P (reverse xs) (x ∷ []) (all_reversed P xs all.1) (all.0, tt))

drops_taken : (start : ByPath Atom) (ls : List AncestorLine) → AllByRecursion Drops ls → Takes start ls
drops_taken start [] all = (start, refl)
drops_taken start (lines.Set path atom ∷ ls) all = absurd all.0
drops_taken start (lines.Drop path ∷ ls) all = takes-first start (without_under start path) (lines.Drop path) ls refl (drops_taken (without_under start path) ls all.1)

module _ (old : ByPath Atom) (at : Names) (rooted : Rooted old at) where
  abbrev drop_lines : List AncestorLine
  drop_lines = reverse (filter_map drop_line (trees.entries old))

  drops_are : AllByRecursion Drops drop_lines
  drops_are =
      all_reversed Drops (filter_map drop_line (trees.entries old))
      (maps_all (λ e. trees.get old e.0 ≡ Some e.1) Drops drop_line (λ e stands l is. subst Drops (sym (drop_of_entry e l is)) tt) (trees.entries old) (entries_stand old))

  drops_pass : (q : Names) → is_under q at ≡ false → AllByRecursion (Passes q) drop_lines
  drops_pass q out =
      all_reversed (Passes q) (filter_map drop_line (trees.entries old))
      (maps_all (λ e. trees.get old e.0 ≡ Some e.1) (Passes q) drop_line
      (λ e stands l is. subst (Passes q) (sym (drop_of_entry e l is)) (untouched q (lines.Drop e.0) (apart e stands (is_under q e.0) refl))) (trees.entries old) (entries_stand old))
    where
      apart : (e : Names × Atom) → trees.get old e.0 ≡ Some e.1 → (b : Bool) → is_under q e.0 ≡ b → is_under q e.0 ≡ false
      apart e stands true u = let no : true ≡ false = sym (under_through q e.0 at u (rooted.within e.0 e.1 stands)) ∙ out in absurd (cc)
      apart e stands false u = u

-- ---- all operations of a change

leaf_is_no_folder : (o : Option Atom) → is_leaf o ≡ true → holds_folder o ≡ true → ⊥
leaf_is_no_folder None h f = let no : false ≡ true = h in cc
leaf_is_no_folder (Some Dir) h f = let no : false ≡ true = h in cc
leaf_is_no_folder (Some (File digest executable)) h f = let no : false ≡ true = f in cc
leaf_is_no_folder (Some (Link text)) h f = let no : false ≡ true = f in cc
leaf_is_no_folder (Some Untracked) h f = let no : false ≡ true = h in cc
leaf_is_no_folder (Some (Problem kind)) h f = let no : false ≡ true = h in cc

module _ (c : Change) (old : Rooted c.old c.at) (new : Rooted c.new c.at) where
  abbrev replaces : Bool
  replaces = is_leaf (trees.get c.old c.at) && is_leaf (trees.get c.new c.at)

  abbrev replacing : List AncestorLine
  replacing = option_to_list (option_map (lines.Set c.at) (trees.get c.new c.at))

  abbrev rebuilding : List AncestorLine
  rebuilding = drop_lines c.old c.at old ++ filter_map set_line (trees.entries c.new)

  by_kind : (P : List AncestorLine → Type 0) → (replaces ≡ true → P replacing) → P rebuilding → P (operation_lines c)
  by_kind P one all = by replaces refl
    where
      by : (b : Bool) → replaces ≡ b → P (cond b replacing rebuilding)
      by true e = one e
      by false e = all

  -- the lines touch nothing that isn't at or below the change's path
  pub operations_pass : (q : Names) → is_under q c.at ≡ false → AllByRecursion (Passes q) (operation_lines c)
  operations_pass q out =
      by_kind (AllByRecursion (Passes q)) (λ _. one (trees.get c.new c.at))
      (both_pass (Passes q) (drop_lines c.old c.at old) (filter_map set_line (trees.entries c.new)) (drops_pass c.old c.at old q out) (sets_pass c.new c.at new q out))
    where
      one : (o : Option Atom) → AllByRecursion (Passes q) (option_to_list (option_map (lines.Set c.at) o))
      one None = tt
      one (Some x) = (untouched q (lines.Set c.at x) out, tt)

  -- what the change puts somewhere stands there once all its lines are taken up
  pub operations_give : (q : Names) (x : Atom) (w : Option Atom) → trees.get c.new q ≡ Some x → value q w (operation_lines c) ≡ Some x
  operations_give q x w is =
      by_kind (λ ls. value q w ls ≡ Some x) (λ leaves. one leaves (is_under c.at q) refl)
      (value-append q w (drop_lines c.old c.at old) (filter_map set_line (trees.entries c.new)) ∙ sets_give c.new c.at new q x _ is)
    where
      one : replaces ≡ true → (b : Bool) → is_under c.at q ≡ b → value q w replacing ≡ Some x
      one leaves true up =
          let here : q ≡ c.at = under_both q c.at (new.within q x is) up in
          ap (λ (o : Option Atom). value q w (option_to_list (option_map (lines.Set c.at) o))) (sym (ap (trees.get c.new) here) ∙ is)
          ∙ ap (λ b. cond (b || not (is_dir x || not (is_below q c.at))) (cond b (Some x) None) w) (ap (eq_by_cmp path_cmp q) (sym here) ∙ ap is_eq (tied_itself path_cmp_total q))
      one leaves false up =
          absurd (leaf_is_no_folder (trees.get c.new c.at) (and_parts (is_leaf (trees.get c.old c.at)) (is_leaf (trees.get c.new c.at)) leaves).1
          (new.folders q c.at (ap is_some is) (new.within q x is) up (under_itself c.at)))

  -- the lines can be taken up where there are folders above the change's path
  pub operations_taken : (start : ByPath Atom) → ((r : Names) → is_under c.at r ≡ true → is_under r c.at ≡ false → trees.get start r ≡ Some Dir) → Takes start (operation_lines c)
  operations_taken start above =
      by_kind (Takes start) (λ _. one (trees.get c.new c.at))
      (let removed = drops_taken start (drop_lines c.old c.at old) (drops_are c.old c.at old) in
      takes-append start (drop_lines c.old c.at old) (filter_map set_line (trees.entries c.new)) removed
      (sets_taken c.new c.at new removed.0
      (λ r up down. get-with_lines r start removed.0 (drop_lines c.old c.at old) removed.1 ∙ value-passed r (trees.get start r) (drop_lines c.old c.at old) (drops_pass c.old c.at old r down) ∙ above r up down)))
    where
      one : (o : Option Atom) → Takes start (option_to_list (option_map (lines.Set c.at) o))
      one None = (start, refl)
      one (Some x) = let next = let_set start c.at x above in takes-first start next.0 (lines.Set c.at x) [] next.1 (next.0, refl)
