-- What a side's comparison at a path says of each path at and below it.
use Rattle.std.proofs.Common.{◌≡◌, Bool, true, false, cond, ◌||◌, List, [], ◌∷◌, refl, sym, ap, ◌∙◌}
use Rattle.std.specs.FinMap as trees
use Rattle.std.specs.List.{filter, list_all, list_any}
use Rattle.std.specs.Ordering.{eq_by_cmp}
use Rattle.std.proofs.lemmas.Bool.{and_parts, or_left, or_right}
use Rattle.sync_path.specs.Path.{path_cmp, is_under}
use Rattle.entry_tree.specs.Tree.{Names, ByPath}
use Rattle.entry_tree.specs.declared.atom.Atom.{Atom}
use Rattle.entry_tree.proofs.Trees.{tie_is}
use Rattle.mode_rules.specs.Trees.{Trees, paths_of, is_same_at, is_less_at, same, less}
use Rattle.mode_rules.proofs.PathSets.{among, three}

-- a path is among those of three trees exactly where one of them holds something there
pub has_path : (t : Trees) (q : Names) → list_any (eq_by_cmp path_cmp q) (paths_of t)
    ≡ ((trees.contains_key t.ancestor q || trees.contains_key t.alpha q) || trees.contains_key t.beta q)
has_path t q = sym (trees.contains_key-keys _ q) ∙ among _ q ∙ three t q

without_first : (f : Names → Bool) (c : Bool) (p : Names) (ps : List Names) → list_all f (cond c (p ∷ ps) ps) ≡ true → list_all f ps ≡ true
without_first f true p ps h = (and_parts (f p) (list_all f ps) h).1
without_first f false p ps h = h

-- what is said of each path that passes a test is said of one among them that does
pub says_each : (f g : Names → Bool) (q : Names) (ps : List Names) → list_any (eq_by_cmp path_cmp q) ps ≡ true → list_all f (filter g ps) ≡ true → g q ≡ true → f q ≡ true
says_each f g q [] has h passes = absurd (cc)
says_each f g q (p ∷ ps) has h passes =
    by (eq_by_cmp path_cmp q p) refl has (λ more. says_each f g q ps more (without_first f (g p) p (filter g ps) h) passes)
  where
    by : (c : Bool) → eq_by_cmp path_cmp q p ≡ c → (c || list_any (eq_by_cmp path_cmp q) ps) ≡ true → (list_any (eq_by_cmp path_cmp q) ps ≡ true → f q ≡ true) → f q ≡ true
    by true e has rest =
        let here : q ≡ p = tie_is q p e in
        let first : list_all f (p ∷ filter g ps) ≡ true = ap (λ b. list_all f (cond b (p ∷ filter g ps) (filter g ps))) (sym passes ∙ ap g here) ∙ h in
        ap f here ∙ (and_parts (f p) (list_all f (filter g ps)) first).0
    by false e has rest = rest has

-- where a side is the same at and below a path, it is at each path there that is among those of the trees
pub same_each : (t : Trees) (side : ByPath Atom) (path q : Names) → same t side path ≡ true → list_any (eq_by_cmp path_cmp q) (paths_of t) ≡ true → is_under q path ≡ true
    → is_same_at t.ancestor side q ≡ true
same_each t side path q h has under = says_each (is_same_at t.ancestor side) (λ p. is_under p path) q (paths_of t) has h under

pub less_each : (t : Trees) (side : ByPath Atom) (path q : Names) → less t side path ≡ true → list_any (eq_by_cmp path_cmp q) (paths_of t) ≡ true → is_under q path ≡ true
    → is_less_at t.ancestor side q ≡ true
less_each t side path q h has under = says_each (is_less_at t.ancestor side) (λ p. is_under p path) q (paths_of t) has h under

pub has_alphas : (t : Trees) (q : Names) → trees.contains_key t.alpha q ≡ true → list_any (eq_by_cmp path_cmp q) (paths_of t) ≡ true
has_alphas t q h = has_path t q ∙ or_left _ (trees.contains_key t.beta q) (or_right (trees.contains_key t.ancestor q) _ h)

pub has_betas : (t : Trees) (q : Names) → trees.contains_key t.beta q ≡ true → list_any (eq_by_cmp path_cmp q) (paths_of t) ≡ true
has_betas t q h = has_path t q ∙ or_right (trees.contains_key t.ancestor q || trees.contains_key t.alpha q) _ h
