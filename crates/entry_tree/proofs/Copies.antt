-- What a map holds once entries in order were put into it.
use Rattle.std.proofs.Common.{◌≡◌, Bool, true, false, cond, ◌&&◌, List, [], ◌∷◌, refl, sym, ap, ◌∙◌, Option, Some, None, Ordering}
use Rattle.std.specs.Prelude.{T}
use Rattle.std.specs.FinMap as map
use Rattle.std.specs.FinMap.Entries.{below_all, find-where_key, is_sorted-where_key}
use Rattle.std.specs.BTreeMap.{BTreeMap, Updates}
use Rattle.std.specs.Ordering.{is_lt, is_eq, eq_by_cmp}
use Rattle.std.specs.declared.cmp.Ordering.TheVariants.{Less, Equal, Greater}
use Rattle.sync_path.specs.Path.{path_cmp, is_under}
use Rattle.sync_path.specs.PathOrder.{path_cmp_total}
use Rattle.entry_tree.specs.Tree.{Names, ByPath, entries_under}
use Rattle.entry_tree.specs.Copying.{put_all}
use Rattle.finite_maps.proofs.TreeMaps.{insert-from_tree}
use Rattle.entry_tree.proofs.Maps.{alike}
use Rattle.entry_tree.proofs.Paths.{path_same, tied}

first : (a b : Bool) → T (a && b) → T a
first true b p = tt
first false b p = p

second : (a b : Bool) → T (a && b) → T b
second true b p = p
second false b p = absurd p

abbrev pub or_else : {X : Type 0} → Option X → Option X → Option X
or_else None o = o
or_else (Some x) o = Some x

not_eq : (r : Ordering) → T (is_lt r) → is_eq r ≡ false
not_eq Less h = refl
not_eq Equal h = absurd h
not_eq Greater h = absurd h

-- a path below all of these is none of them
not_among : {X : Type 0} (k : Names) (es : List (Names × X)) → T (below_all path_cmp k es) → map.find path_cmp k es ≡ None
not_among k [] h = refl
not_among k (e ∷ es) h =
    ap (λ b. cond b (Some e.1) (map.find path_cmp k es)) (not_eq (path_cmp k e.0) (first _ _ h)) ∙ not_among k es (second _ _ h)

pub get-put_all : {X : Type 0} (tree : ByPath X) (es : List (Names × X)) → T (map.is_sorted path_cmp es) → (q : Names)
    → map.get (put_all tree es) q ≡ or_else (map.find path_cmp q es) (map.get tree q)
get-put_all tree [] h q = refl
get-put_all {X} tree (e ∷ es) h q =
    get-put_all (map.insert tree e.0 e.1) es (second _ _ h) q
    ∙ ap (or_else (map.find path_cmp q es)) (map.get-insert path_cmp_total tree e.0 e.1 q)
    ∙ elim (eq_by_cmp path_cmp q e.0) as (λ b. eq_by_cmp path_cmp q e.0 ≡ b → or_else (map.find path_cmp q es) (cond b (Some e.1) (map.get tree q)) ≡ or_else (cond b (Some e.1) (map.find path_cmp q es)) (map.get tree q)) [
      | true ↦ λ t.
          let same : q ≡ e.0 = path_same q e.0 (tied (path_cmp q e.0) t) in
          ap (λ (o : Option X). or_else o (Some e.1)) (ap (λ k. map.find path_cmp k es) same ∙ not_among e.0 es (first _ _ h))
      | false ↦ λ t. refl
    ] refl

or_none : {X : Type 0} (o : Option X) → or_else o None ≡ o
or_none None = refl
or_none (Some x) = refl

-- what a tree holds at and below a path, found among its entries there
pub find-under : {X : Type 0} (tree : ByPath X) (p q : Names) → map.find path_cmp q (entries_under tree p) ≡ cond (is_under q p) (map.get tree q) None
find-under tree p q =
    find-where_key path_cmp (λ k. is_under k p) q (alike path_same (λ k. is_under k p) q) (map.entries tree)
    ∙ ap (λ o. cond (is_under q p) o None) (sym (map.get-entries tree q))

-- all of a tree, put into an empty one, is the tree
pub put_all_is : {X : Type 0} (tree : ByPath X) → put_all map.empty (entries_under tree []) ≡ tree
put_all_is tree =
    map.same_map path_cmp_total path_same _ _
    (λ q. get-put_all map.empty (entries_under tree []) (is_sorted-where_key path_cmp (λ k. is_under k []) (map.entries tree) (map.entries_sorted tree)) q
    ∙ (λ i. or_else (find-under tree [] q i) (map.get-empty path_cmp q i))
    ∙ or_none (map.get tree q))

-- to put in the first is to go on with the rest
pub put_one : {X : Type 0} (m n : BTreeMap Names X) (e : Names × X) (s rest : List (Names × X)) (whole : ByPath X) → Updates path_cmp m n e.0 (Some e.1) → s ≡ e ∷ rest
    → put_all (map.from_entries m.entries) s ≡ whole → put_all (map.from_entries n.entries) rest ≡ whole
put_one m n e s rest whole u is h =
    ap (λ t. put_all t rest) (insert-from_tree path_cmp_total path_same m n e.0 e.1 u) ∙ sym (ap (put_all (map.from_entries m.entries)) is) ∙ h
