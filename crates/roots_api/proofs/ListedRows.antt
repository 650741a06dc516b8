-- The rows of a folder rise, and each makes a path behind it, where a tree holds something only at paths.
use Rattle.std.proofs.Common.{◌≡◌, ℕ, Bool, true, false, cond, not, ◌||◌, List, [], ◌∷◌, ◌++◌, refl, sym, ap, subst, ◌∙◌, Option, Some, None, Ordering, bytes_eq}
use Rattle.std.proofs.Common.{map as list_map}
use Rattle.std.specs.Prelude.{T, ◌&&◌, IsTrue, is_some}
use Rattle.std.specs.FinMap as map
use Rattle.std.specs.FinMap.Entries.{below_all}
use Rattle.std.specs.Cmp.{tied_itself}
use Rattle.std.specs.Cmp.Lexicographic.{slice_cmp, nat_list_cmp_total}
use Rattle.std.specs.List.{AllByRecursion, filter_map, cons_option, list_any}
use Rattle.std.specs.List.Sorted.{IsStrictlySortedBy}
use Rattle.std.specs.Map.{keys_of}
use Rattle.std.specs.Option.{option_map}
use Rattle.std.specs.Ordering.{nat_cmp, is_eq, is_lt, eq_by_cmp, ordering_then}
use Rattle.std.specs.declared.cmp.Ordering.TheVariants.{Less, Equal, Greater}
use Rattle.sync_path.specs.Path.{IsPath, path_cmp, may_follow, is_under}
use Rattle.sync_path.specs.PathOrder.{path_cmp_total}
use Rattle.entry_tree.specs.Entry.{is_dir}
use Rattle.entry_tree.specs.Tree.{Names, ByPath, name_below, child_row, children_below, set_at, without_under, is_below}
use Rattle.entry_tree.specs.declared.entry.Entry.{Entry}
use Rattle.entry_tree.proofs.Paths.{name_is}
use Rattle.entry_tree.proofs.Trees.{get-set, get-retain, tie_is}
use Rattle.sync_path.proofs.Lengths.{follows_in_path, path_of_root}
use Rattle.entry_tree.specs.declared.entry.Entry.TheVariants.{Dir as DirEntry}
use Rattle.roots_api.specs.Answers.{AreRows}
use Rattle.roots_api.specs.States.{new_root}
use Rattle.roots_api.specs.Laws.{HoldsPaths}

pub name_below_is : (k p : Names) (n : List ℕ) → name_below k p ≡ Some n → k ≡ p ++ n ∷ []
name_below_is [] p n h = absurd (cc)
name_below_is (x ∷ []) [] n h = let e : x ≡ n = cc in ap (λ (y : List ℕ). y ∷ []) e
name_below_is (x ∷ y ∷ k) [] n h = absurd (cc)
name_below_is (x ∷ k) (m ∷ p) n h =
    elim (bytes_eq m x) as (λ b. bytes_eq m x ≡ b → cond b (name_below k p) None ≡ Some n → x ∷ k ≡ (m ∷ p) ++ n ∷ []) [
      | true ↦ λ e g i. sym (name_is m x e) i ∷ name_below_is k p n g i
      | false ↦ λ e g. absurd (cc)
    ] refl h

then_equal : (r : Ordering) → ordering_then r Equal ≡ r
then_equal Less = refl
then_equal Equal = refl
then_equal Greater = refl

-- children of one folder stand as their names do
pub child_cmp : (p : Names) (n m : List ℕ) → path_cmp (p ++ n ∷ []) (p ++ m ∷ []) ≡ slice_cmp nat_cmp n m
child_cmp [] n m = then_equal (slice_cmp nat_cmp n m)
child_cmp (x ∷ p) n m =
    ap (λ r. ordering_then r (path_cmp (p ++ n ∷ []) (p ++ m ∷ []))) (tied_itself nat_list_cmp_total x) ∙ child_cmp p n m

less : (r : Ordering) → T (is_lt r) → r ≡ Less
less Less h = refl
less Equal h = absurd h
less Greater h = absurd h

first : (a b : Bool) → T (a && b) → T a
first true b h = tt
first false b h = h

second : (a b : Bool) → T (a && b) → T b
second true b h = h
second false b h = absurd h

module _ {X : Type 0} (p : Names) where
  above : (n : List ℕ) (es : List (Names × X)) → T (below_all path_cmp (p ++ n ∷ []) es)
      → AllByRecursion (λ m. slice_cmp nat_cmp n m ≡ Less) (list_map (λ row. row.0) (filter_map (child_row p) es))
  above n [] h = tt
  above n (e ∷ es) h =
      let rest = above n es (second (is_lt (path_cmp (p ++ n ∷ []) e.0)) _ h) in
      elim (name_below e.0 p) as (λ o. name_below e.0 p ≡ o → AllByRecursion (λ m. slice_cmp nat_cmp n m ≡ Less) (list_map (λ row. row.0) (cons_option (option_map (λ name. (name, e.1)) o) (filter_map (child_row p) es)))) [
        | None ↦ λ _. rest
        | Some m ↦ λ is. (sym (child_cmp p n m) ∙ ap (path_cmp (p ++ n ∷ [])) (sym (name_below_is e.0 p m is)) ∙ less (path_cmp (p ++ n ∷ []) e.0) (first _ _ h), rest)
      ] refl

  rise : (es : List (Names × X)) → T (map.is_sorted path_cmp es) → IsStrictlySortedBy (slice_cmp nat_cmp) (list_map (λ row. row.0) (filter_map (child_row p) es))
  unfolding IsStrictlySortedBy
  rise [] h = tt
  rise (e ∷ es) h =
      let rest = rise es (second (below_all path_cmp e.0 es) _ h) in
      elim (name_below e.0 p) as (λ o. name_below e.0 p ≡ o → IsStrictlySortedBy (slice_cmp nat_cmp) (list_map (λ row. row.0) (cons_option (option_map (λ name. (name, e.1)) o) (filter_map (child_row p) es)))) [
        | None ↦ λ _. rest
        | Some n ↦ λ is. (above n es (subst (λ (k : Names). T (below_all path_cmp k es)) (name_below_is e.0 p n is) (first _ _ h)), rest)
      ] refl

  follows : (es : List (Names × X)) → AllByRecursion IsPath (keys_of es) → AllByRecursion (λ row. IsTrue (may_follow p row.0)) (filter_map (child_row p) es)
  follows [] h = tt
  follows (e ∷ es) h =
      let rest = follows es h.1 in
      elim (name_below e.0 p) as (λ o. name_below e.0 p ≡ o → AllByRecursion (λ row. IsTrue (may_follow p row.0)) (cons_option (option_map (λ name. (name, e.1)) o) (filter_map (child_row p) es))) [
        | None ↦ λ _. rest
        | Some n ↦ λ is. (follows_in_path p n [] (subst IsPath (name_below_is e.0 p n is) h.0), rest)
      ] refl

or_left : (a b : Bool) → a ≡ true → (a || b) ≡ true
or_left true b h = refl
or_left false b h = absurd (cc)

or_right : (a b : Bool) → b ≡ true → (a || b) ≡ true
or_right true b h = refl
or_right false b h = h

-- what holds of each key of a map holds of its keys in order
each_key : (P : Names → Type 0) (ks : List Names) → ((q : Names) → list_any (eq_by_cmp path_cmp q) ks ≡ true → P q) → AllByRecursion P ks
each_key P [] h = tt
each_key P (k ∷ ks) h = (
  h k (or_left (eq_by_cmp path_cmp k k) _ (ap is_eq (tied_itself path_cmp_total k))),
  each_key P ks (λ q g. h q (or_right (eq_by_cmp path_cmp q k) (list_any (eq_by_cmp path_cmp q) ks) g)),
)

pub rows_are : (tree : ByPath Entry) (p : Names) → HoldsPaths tree → AreRows p (children_below tree p)
rows_are tree p holds = record {
  rise = rise p (map.entries tree) (map.entries_sorted tree);
  follow = follows p (map.entries tree) (each_key IsPath (keys_of (map.entries tree)) (λ q h. holds q (map.contains_key-keys tree q ∙ h)));
}

some_of : {X : Type 0} (b : Bool) (o : Option X) → is_some (cond b o None) ≡ true → is_some o ≡ true
some_of true o h = h
some_of false o h = absurd (cc)

pub holds_set : (tree : ByPath Entry) (p : Names) (x : Entry) → HoldsPaths tree → IsPath p → HoldsPaths (set_at is_dir tree p x)
holds_set tree p x holds path q h =
    elim (eq_by_cmp path_cmp q p) as (λ b. eq_by_cmp path_cmp q p ≡ b → is_some (cond b (Some x) (cond (is_dir x || not (is_below q p)) (map.get tree q) None)) ≡ true → IsPath q) [
      | true ↦ λ e _. subst IsPath (sym (tie_is q p e)) path
      | false ↦ λ e g. holds q (some_of (is_dir x || not (is_below q p)) (map.get tree q) g)
    ] refl (ap (λ (o : Option Entry). is_some o) (sym (get-set is_dir tree p x q)) ∙ h)

pub holds_without : (tree : ByPath Entry) (p : Names) → HoldsPaths tree → HoldsPaths (without_under tree p)
holds_without tree p holds q h =
    holds q (some_of (not (is_under q p)) (map.get tree q) (ap (λ (o : Option Entry). is_some o) (sym (get-retain is_dir tree (λ r. not (is_under r p)) q)) ∙ h))

pub holds_new : HoldsPaths new_root.tree
holds_new q h =
    elim (eq_by_cmp path_cmp q []) as (λ b. eq_by_cmp path_cmp q [] ≡ b → is_some (cond b (Some DirEntry) (map.get (map.empty {X = Entry} {R = path_cmp}) q)) ≡ true → IsPath q) [
      | true ↦ λ e _. subst IsPath (sym (tie_is q [] e)) path_of_root
      | false ↦ λ e g. absurd (let n : false ≡ true = ap (λ (o : Option Entry). is_some o) (sym (map.get-empty path_cmp q)) ∙ g in cc)
    ] refl (ap (λ (o : Option Entry). is_some o) (sym (map.get-insert path_cmp_total map.empty [] DirEntry q)) ∙ h)
