-- What a set that has the paths of three trees is.
use Rattle.std.proofs.Common.{◌≡◌, ◌||◌, List, [], ◌∷◌, ◌++◌, map, refl, sym, ap, ◌∙◌, Option, Some, None}
use Rattle.std.specs.FinMap as trees
use Rattle.std.specs.FinMap.{FinMap}
use Rattle.std.specs.FinMap.Entries.{is_some-find}
use Rattle.std.specs.List.{list_any}
use Rattle.std.specs.Option.{is_some}
use Rattle.std.specs.Ordering.{eq_by_cmp}
use Rattle.std.proofs.lemmas.List.Folds.{list_any-append}
use Rattle.sync_path.specs.Path.{path_cmp}
use Rattle.sync_path.specs.PathOrder.{path_cmp_total}
use Rattle.entry_tree.specs.Tree.{Names}
use Rattle.mode_rules.specs.Trees.{Trees, paths_of}
use Rattle.entry_tree.proofs.Paths.{path_same}

one_mark : (x y : Option (Unit {0})) → is_some x ≡ is_some y → x ≡ y
one_mark None None e = refl
one_mark None (Some v) e = absurd (cc)
one_mark (Some u) None e = absurd (cc)
one_mark (Some u) (Some v) e = refl

keys_marked : (ps : List Names) → map (λ e. e.0) (map (λ p. let x : Names × Unit {0} = (p, tt) in x) ps) ≡ ps
keys_marked [] = refl
keys_marked (p ∷ ps) = ap (λ qs. p ∷ qs) (keys_marked ps)

-- a path has its mark in a set exactly where it is among those that were put there
pub among : (ps : List Names) (q : Names) → trees.contains_key (trees.from_entries {R = path_cmp} (map (λ p. let x : Names × Unit {0} = (p, tt) in x) ps)) q ≡ list_any (eq_by_cmp path_cmp q) ps
among ps q =
    ap is_some (trees.get-from_entries path_cmp_total _ q)
    ∙ is_some-find path_cmp q _
    ∙ ap (list_any (eq_by_cmp path_cmp q)) (keys_marked ps)

pub three : (t : Trees) (q : Names) → list_any (eq_by_cmp path_cmp q) (trees.keys t.ancestor ++ trees.keys t.alpha ++ trees.keys t.beta)
    ≡ ((trees.contains_key t.ancestor q || trees.contains_key t.alpha q) || trees.contains_key t.beta q)
three t q =
    list_any-append (eq_by_cmp path_cmp q) (trees.keys t.ancestor ++ trees.keys t.alpha) (trees.keys t.beta)
    ∙ ap (λ b. b || list_any (eq_by_cmp path_cmp q) (trees.keys t.beta)) (list_any-append (eq_by_cmp path_cmp q) (trees.keys t.ancestor) (trees.keys t.alpha))
    ∙ (λ i. (sym (trees.contains_key-keys t.ancestor q) i || sym (trees.contains_key-keys t.alpha q) i) || sym (trees.contains_key-keys t.beta q) i)

-- a set that has just the paths of the three trees has them in order
pub keys_of_three : (t : Trees) (s : FinMap path_cmp (Unit {0}))
    → ((q : Names) → trees.contains_key s q ≡ ((trees.contains_key t.ancestor q || trees.contains_key t.alpha q) || trees.contains_key t.beta q))
    → trees.keys s ≡ paths_of t
keys_of_three t s has =
    ap trees.keys (trees.same_map path_cmp_total path_same s _ (λ q. one_mark _ _ (has q ∙ sym (three t q) ∙ sym (among _ q))))
