use Rattle.std.proofs.Common.{◌≡◌, List, Some, None, Result, Ok, Err, MatchResult, slice_get, slice_index_or, ap, sym, subst, ◌∙◌, rules}
use Rattle.std.specs.FinMap as map
use Rattle.std.specs.List.Sorted.{IsBinarySearchResult, IsStrictlySortedBy}
use Rattle.std.specs.Map.{keys_of}
use Rattle.std.proofs.lemmas.Fn.{always_returns_same}
use Rattle.std.proofs.lemmas.Option.{slice_get-get_or}
use Rattle.sync_path.specs.Path.{path_cmp}
use Rattle.sync_path.specs.PathOrder.{path_cmp_total}
use Rattle.finite_maps.proofs.SortedLists.{searched}
use Rattle.entry_tree.specs.Tree.{Names}
use Rattle.entry_tree.proofs.Paths.{path_same}
use Rattle.entry_tree.proofs.subtree.SubtreeOf.get.Goals as goal

-- what a search for the path answers of sorted entries
result_of : {X : Type 0} (es items : List (Names × X)) (path : Names) (r answer : Result _ _) → es ≡ items → IsStrictlySortedBy path_cmp (keys_of items) → r ≡ answer → IsBinarySearchResult (λ e. path_cmp e.0 path) es r
    → MatchResult answer (λ i. (e : Names × X) → slice_get es i ≡ Some e → map.get (map.from_entries {R = path_cmp} items) path ≡ Some e.1) (λ i. map.get (map.from_entries {R = path_cmp} items) path ≡ None)
result_of es items path r answer same sorted is found =
    subst (λ l. MatchResult answer (λ i. (e : Names × _) → slice_get l i ≡ Some e → map.get (map.from_entries {R = path_cmp} items) path ≡ Some e.1) (λ i. map.get (map.from_entries {R = path_cmp} items) path ≡ None)) (sym same)
    (searched path_cmp_total path_same items sorted path answer (subst (λ l. IsBinarySearchResult (λ e. path_cmp e.0 path) l answer) same (subst (λ a. IsBinarySearchResult (λ e. path_cmp e.0 path) es a) is found)))

pub returns-in-Ok : goal.returns-in-Ok
returns-in-Ok g c =
    let found = c.binary_search_by.ensures.position (λ e. path_cmp e.0 c.args.path.now) (always_returns_same _ _ _ (λ a r f called. search rules)) in
    let hit = result_of c.as_slice-entries.result.now c.self.inside.entries.items c.args.path.now c.binary_search_by.result (Ok c.in-Ok.place) c.as_slice-entries.ensures.value c.self.invariant c.in-Ok.is found in
    sym (hit (slice_index_or c.as_slice-entries.result.now c.in-Ok.place c.index-entries-place.result) (slice_get-get_or c.as_slice-entries.result.now c.in-Ok.place c.index-entries-place.result c.in-Ok.ensures.bound))
    ∙ ap (λ m. map.get m c.args.path.now) c.self.view_is

pub returns-in-Err : goal.returns-in-Err
returns-in-Err g c =
    let found = c.binary_search_by.ensures.position (λ e. path_cmp e.0 c.args.path.now) (always_returns_same _ _ _ (λ a r f called. search rules)) in
    sym (result_of c.as_slice-entries.result.now c.self.inside.entries.items c.args.path.now c.binary_search_by.result (Err c.in-Err.field-0) c.as_slice-entries.ensures.value c.self.invariant c.in-Err.is found)
    ∙ ap (λ m. map.get m c.args.path.now) c.self.view_is
