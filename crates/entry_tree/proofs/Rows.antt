-- Going from child to child below a path.
use Rattle.std.proofs.Common.{◌≡◌, ℕ, ◌+◌, ◌<◌, ◌≤◌, Bool, true, false, cond, ◌&&◌, List, [], ◌∷◌, length, bytes_eq, refl, sym, ap, ◌∙◌, ◌++◌, append_assoc, suc, Option, Some, None, Ordering, arith}
use Rattle.std.specs.List.{AllByRecursion, filter, filter_map, cons_option}
use Rattle.std.proofs.Common.{map as list_map}
use Rattle.std.specs.FinMap as map
use Rattle.std.specs.BTreeMap.{BTreeMap, IsOrdered}
use Rattle.finite_maps.proofs.TreeMaps.{entries-from_tree}
use Rattle.std.specs.Prelude.{MatchOption, Result, Ok, Err, IfOk, OnOk}
use Rattle.std.specs.Map.Iter.{TakesFirst}
use Rattle.std.specs.List.Sorted.{IsStrictlySortedBy}
use Rattle.std.specs.Map.{keys_of}
use Rattle.std.specs.Option.{option_map}
use Rattle.std.specs.Ordering.{is_lt, is_le, ordering_reverse}
use Rattle.std.specs.Cmp.{tied_itself}
use Rattle.std.specs.BTreeMap.Comparable.{le_lt_trans}
use Rattle.std.specs.BTreeMap.Range.{entries_between, range_contains}
use Rattle.std.specs.declared.ops.Bound.TheVariants.{Excluded, Unbounded}
use Rattle.std.specs.declared.cmp.Ordering.TheVariants.{Less, Equal, Greater}
use Rattle.std.proofs.lemmas.Map.Keys.{sorted_head, sorted_tail}
use Rattle.sync_path.specs.Path.{path_cmp, is_under}
use Rattle.sync_path.specs.PathOrder.{path_cmp_total}
use Rattle.entry_tree.specs.Tree.{Names, ByPath, is_below, name_below, child_row, children_below}
use Rattle.entry_tree.specs.Walk.{front_under, is_met, left_behind, HasFirst}
use Rattle.entry_tree.proofs.Children.{rows_are_below}
use Rattle.entry_tree.proofs.Paths.{both_true, name_is, path_same, under_le, under_between, below_is}
use Rattle.entry_tree.proofs.Pruning.{first_passes}
use Rattle.entry_tree.proofs.Walks.{walk_is, and_with, and_without, met_below}

less_is : (r : Ordering) → is_lt r ≡ true → r ≡ Less
less_is Less h = refl
less_is Equal h = absurd (cc)
less_is Greater h = absurd (cc)

-- what is met behind a path is behind it
met_behind : (a p y : Names) → is_met (Excluded a) p y ≡ true → path_cmp a y ≡ Less
met_behind a p y h = less_is (path_cmp a y) ((both_true (is_lt (path_cmp a y)) true ((both_true (is_lt (path_cmp a y) && true) (is_under y p) h).0)).0)

-- behind it, all under the other is met
behind_met : (a p y : Names) → path_cmp a y ≡ Less → is_met (Excluded a) p y ≡ is_under y p
behind_met a p y h = ap (λ r. (is_lt r && true) && is_under y p) h

before_met : (a p y : Names) → is_lt (path_cmp a y) ≡ false → is_met (Excluded a) p y ≡ false
before_met a p y h = ap (λ b. (b && true) && is_under y p) h

-- a walk from behind a path under another meets what is left under that
pub walk_left : {X : Type 0} (p at : Names) → is_under at p ≡ true → (es : List (Names × X)) → IsStrictlySortedBy path_cmp (keys_of es) → front_under p (entries_between path_cmp (Excluded at) Unbounded es) ≡ left_behind p at es
walk_left p at under =
    walk_is p (range_contains path_cmp (Excluded at) Unbounded) (is_met (Excluded at) p)
    (λ k f. and_with (range_contains path_cmp (Excluded at) Unbounded k) (is_under k p) f)
    (λ k f. and_without (range_contains path_cmp (Excluded at) Unbounded k) (is_under k p) f)
    (λ k f. ap is_le (le_lt_trans path_cmp_total p at k (under_le at p under) (less_is (path_cmp at k) ((both_true (is_lt (path_cmp at k)) true f).0))))

module _ {X : Type 0} where
  all_first : (P : Names → Type 0) (test : Names × X → Bool) (es : List (Names × X)) (e : Names × X) (w : List (Names × X)) → AllByRecursion P (keys_of es) → filter test es ≡ e ∷ w → P e.0
  all_first P test [] e w all h = absurd (cc)
  all_first P test (x ∷ es) e w all h =
      elim (test x) as (λ b. cond b (x ∷ filter test es) (filter test es) ≡ e ∷ w → P e.0) [
        | true ↦ λ g. let same : x ≡ e = cc in Rattle.std.proofs.Common.subst (λ (y : Names × X). P y.0) same all.0
        | false ↦ λ g. all_first P test es e w all.1 g
      ] h

  -- behind a path that all entries are behind, the same is left as behind an earlier one
  later_left : (p at x : Names) → path_cmp at x ≡ Less → (es : List (Names × X)) → AllByRecursion (λ y. path_cmp x y ≡ Less) (keys_of es) → left_behind p at es ≡ left_behind p x es
  later_left p at x less [] all = refl
  later_left p at x less (e ∷ es) all =
      let rest = later_left p at x less es all.1 in
      let same : is_met (Excluded at) p e.0 ≡ is_met (Excluded x) p e.0 = behind_met at p e.0 (path_cmp_total.trans at x e.0 less all.0) ∙ sym (behind_met x p e.0 all.0) in
      λ i. cond (same i) (e ∷ rest i) (rest i)

  -- what is left behind the first of what is left
  pub next_left : (p at : Names) (es : List (Names × X)) (e : Names × X) (w : List (Names × X)) → IsStrictlySortedBy path_cmp (keys_of es) → left_behind p at es ≡ e ∷ w → w ≡ left_behind p e.0 es
  next_left p at [] e w sorted h = absurd (cc)
  next_left p at (x ∷ es) e w sorted h =
      let head = sorted_head path_cmp x.0 (keys_of es) sorted in
      let tail = sorted_tail path_cmp x.0 (keys_of es) sorted in
      elim (is_met (Excluded at) p x.0) as (λ b. is_met (Excluded at) p x.0 ≡ b → cond b (x ∷ left_behind p at es) (left_behind p at es) ≡ e ∷ w → w ≡ cond (is_met (Excluded e.0) p x.0) (x ∷ left_behind p e.0 es) (left_behind p e.0 es)) [
        | true ↦ λ m g.
            let same : x ≡ e = cc in
            let rest : left_behind p at es ≡ w = cc in
            let out : is_met (Excluded x.0) p x.0 ≡ false = before_met x.0 p x.0 (ap is_lt (tied_itself path_cmp_total x.0)) in
            sym rest ∙ later_left p at x.0 (met_behind at p x.0 m) es head
            ∙ sym (ap (λ b. cond b (x ∷ left_behind p x.0 es) (left_behind p x.0 es)) out)
            ∙ ap (λ (y : Names × X). cond (is_met (Excluded y.0) p x.0) (x ∷ left_behind p y.0 es) (left_behind p y.0 es)) same
        | false ↦ λ m g.
            let less : path_cmp x.0 e.0 ≡ Less = all_first (λ y. path_cmp x.0 y ≡ Less) (λ y. is_met (Excluded at) p y.0) es e w head g in
            let out : is_met (Excluded e.0) p x.0 ≡ false = before_met e.0 p x.0 (ap is_lt (path_cmp_total.antisymm e.0 x.0 ∙ ap ordering_reverse less)) in
            next_left p at es e w tail g ∙ sym (ap (λ b. cond b (x ∷ left_behind p e.0 es) (left_behind p e.0 es)) out)
      ] refl h

module _ (p a b : Names) (le : is_le (path_cmp a b) ≡ true) where
  later_met : (y : Names) → is_met (Excluded b) p y ≡ true → is_met (Excluded a) p y ≡ true
  later_met y h =
      let less = met_behind b p y h in
      behind_met a p y (le_lt_trans path_cmp_total a b y le less) ∙ sym (behind_met b p y less) ∙ h

  module _ {X : Type 0} where
    -- no more is left behind a later path
    pub left_less : (es : List (Names × X)) → length (left_behind p b es) ≤ length (left_behind p a es)
    left_less [] = omega arith
    left_less (e ∷ es) =
        let rest = left_less es in
        elim (is_met (Excluded b) p e.0) as (λ v. is_met (Excluded b) p e.0 ≡ v → length (cond v (e ∷ left_behind p b es) (left_behind p b es)) ≤ length (cond (is_met (Excluded a) p e.0) (e ∷ left_behind p a es) (left_behind p a es))) [
          | true ↦ λ h. Rattle.std.proofs.Common.subst (λ v. length (e ∷ left_behind p b es) ≤ length (cond v (e ∷ left_behind p a es) (left_behind p a es))) (sym (later_met e.0 h)) (omega arith)
          | false ↦ λ h. elim (is_met (Excluded a) p e.0) as (λ v. length (left_behind p b es) ≤ length (cond v (e ∷ left_behind p a es) (left_behind p a es))) [ true ↦ omega arith | false ↦ rest ]
        ] refl

    -- where nothing between the two is a child, the children that are left are the same
    pub rows_from : ((y : Names) → path_cmp a y ≡ Less → is_lt (path_cmp b y) ≡ false → name_below y p ≡ None)
        → (es : List (Names × X)) → filter_map (child_row p) (left_behind p a es) ≡ filter_map (child_row p) (left_behind p b es)
    rows_from skip [] = refl
    rows_from skip (e ∷ es) =
        let rest = rows_from skip es in
        let rows : List (Names × X) → List (List ℕ × X) = filter_map (child_row p) in
        elim (is_met (Excluded a) p e.0) as (λ v. is_met (Excluded a) p e.0 ≡ v → rows (cond v (e ∷ left_behind p a es) (left_behind p a es)) ≡ rows (cond (is_met (Excluded b) p e.0) (e ∷ left_behind p b es) (left_behind p b es))) [
          | true ↦ λ m. elim (is_lt (path_cmp b e.0)) as (λ v. is_lt (path_cmp b e.0) ≡ v → cons_option (child_row p e) (rows (left_behind p a es)) ≡ rows (cond ((v && true) && is_under e.0 p) (e ∷ left_behind p b es) (left_behind p b es))) [
            | true ↦ λ _.
                let under = (both_true (is_lt (path_cmp a e.0) && true) (is_under e.0 p) m).1 in
                ap (cons_option (child_row p e)) rest ∙ sym (ap (λ u. rows (cond u (e ∷ left_behind p b es) (left_behind p b es))) under)
            | false ↦ λ h. ap (λ o. cons_option (option_map (λ name. (name, e.1)) o) (rows (left_behind p a es))) (skip e.0 (met_behind a p e.0 m) h) ∙ rest
          ] refl
          | false ↦ λ m. elim (is_met (Excluded b) p e.0) as (λ v. is_met (Excluded b) p e.0 ≡ v → rows (left_behind p a es) ≡ rows (cond v (e ∷ left_behind p b es) (left_behind p b es))) [
            | true ↦ λ h. let e : true ≡ false = sym (later_met e.0 h) ∙ m in absurd (cc)
            | false ↦ λ h. rest
          ] refl
        ] refl

some_is : {A : Type 0} (b : Bool) (o : Option A) (x : A) → cond b o None ≡ Some x → o ≡ Some x
some_is true o x h = h
some_is false o x h = absurd (cc)

-- below a child stands no child
deeper : (p e x : Names) (n : List ℕ) → name_below e p ≡ Some n → is_below x e ≡ true → name_below x p ≡ None
deeper p [] x n h b = absurd (cc)
deeper p (f ∷ e) [] n h b = refl
deeper [] (f ∷ g ∷ e) (a ∷ x) n h b = absurd (cc)
deeper [] (f ∷ []) (a ∷ []) n h b = let out = (both_true (bytes_eq f a) false b).1 in absurd (cc)
deeper [] (f ∷ []) (a ∷ c ∷ x) n h b = refl
deeper (m ∷ p) (f ∷ e) (a ∷ x) n h b =
    elim (bytes_eq m a) as (λ v. cond v (name_below x p) None ≡ None) [
      | true ↦ deeper p e x n (some_is (bytes_eq m f) (name_below e p) n h) ((both_true (bytes_eq f a) (is_below x e) b).1)
      | false ↦ refl
    ]

-- from a child to a path under it, nothing is a child
pub no_child_between : (p e b : Names) (n : List ℕ) → name_below e p ≡ Some n → is_under b e ≡ true → (y : Names) → path_cmp e y ≡ Less → is_lt (path_cmp b y) ≡ false → name_below y p ≡ None
no_child_between p e b n child under y less past =
    let le : is_le (path_cmp e y) ≡ true = ap is_le less in
    let within : is_under y e ≡ true =
    elim (path_cmp y b) as (λ r. path_cmp y b ≡ r → is_under y e ≡ true) [
      | Less ↦ λ h. under_between e y b le h under
      | Equal ↦ λ h. ap (λ q. is_under q e) (path_same y b h) ∙ under
      | Greater ↦ λ h. let lt : is_lt (path_cmp b y) ≡ true = ap is_lt (path_cmp_total.antisymm b y ∙ ap ordering_reverse h) in let no : true ≡ false = sym lt ∙ past in absurd (cc)
    ] refl in
    deeper p e y n child (below_is y e ∙ ap (λ r. is_lt r && is_under y e) less ∙ within)

-- at the start, all below the path is left
pub all_left : {X : Type 0} (p : Names) (es : List (Names × X)) → filter_map (child_row p) (left_behind p p es) ≡ filter_map (child_row p) es
all_left p es = (λ i. filter_map (child_row p) (filter (λ e. met_below p e.0 i) es)) ∙ rows_are_below p es

pub under_trans : (a b p : Names) → is_under a b ≡ true → is_under b p ≡ true → is_under a p ≡ true
under_trans a b [] h g = refl
under_trans a [] (m ∷ p) h g = absurd (cc)
under_trans [] (n ∷ b) (m ∷ p) h g = absurd (cc)
under_trans (x ∷ a) (n ∷ b) (m ∷ p) h g =
    let low = both_true (bytes_eq n x) (is_under a b) h in
    let high = both_true (bytes_eq m n) (is_under b p) g in
    ap (λ v. v && is_under a p) (ap (bytes_eq m) (sym (name_is n x low.0)) ∙ high.0) ∙ under_trans a b p low.1 high.1

-- what a walk gives first begins what it had left
pub begins : {A X : Type 0} (shows : A → X) (had all : List X) (r : Option A) (rest : List X) → had ≡ all → TakesFirst shows had r rest → MatchOption r (all ≡ []) (λ e. HasFirst (shows e) all)
begins shows had all None rest same h = sym same ∙ h.0
begins shows had all (Some e) rest same h = record { rest = rest; is = sym same ∙ h }

module _ {X : Type 0} (p at : Names) (es : List (Names × X)) (e : Names × X) (sorted : IsStrictlySortedBy path_cmp (keys_of es)) (first : HasFirst e (left_behind p at es)) where
  -- the first of what is left lies under the path
  pub first_under : is_under e.0 p ≡ true
  first_under = (both_true (is_lt (path_cmp at e.0) && true) (is_under e.0 p) (first_passes (λ (y : Names × X). is_met (Excluded at) p y.0) es e first.rest first.is)).1

  rows_left : filter_map (child_row p) (left_behind p at es) ≡ cons_option (child_row p e) (filter_map (child_row p) (left_behind p e.0 es))
  rows_left = ap (filter_map (child_row p)) first.is ∙ ap (λ w. cons_option (child_row p e) (filter_map (child_row p) w)) (next_left p at es e first.rest sorted first.is)

  module _ (done all : List (List ℕ × X)) (so_far : done ++ filter_map (child_row p) (left_behind p at es) ≡ all) where
    -- past an entry that is no child
    pub past_other : name_below e.0 p ≡ None → done ++ filter_map (child_row p) (left_behind p e.0 es) ≡ all
    past_other none = sym (ap (λ l. done ++ l) (rows_left ∙ ap (λ o. cons_option (option_map (λ name. (name, e.1)) o) (filter_map (child_row p) (left_behind p e.0 es))) none)) ∙ so_far

    -- past a child, and what lies below it
    pub past_child : (n : List ℕ) (b : Names) → name_below e.0 p ≡ Some n → is_under b e.0 ≡ true → (done ++ (n, e.1) ∷ []) ++ filter_map (child_row p) (left_behind p b es) ≡ all
    past_child n b child under =
        let further = rows_from p e.0 b (under_le b e.0 under) (no_child_between p e.0 b n child under) es in
        let regroup : (done ++ (n, e.1) ∷ []) ++ filter_map (child_row p) (left_behind p b es) ≡ done ++ (n, e.1) ∷ filter_map (child_row p) (left_behind p b es) = simp append_assoc in
        regroup ∙ sym (ap (λ l. done ++ l) (rows_left ∙ ap (λ o. cons_option (option_map (λ name. (name, e.1)) o) (filter_map (child_row p) (left_behind p e.0 es))) child ∙ ap (λ l. (n, e.1) ∷ l) further)) ∙ so_far

  -- less is left behind what lies under it
  pub smaller : (b : Names) → is_under b e.0 ≡ true → length (left_behind p b es) < length (left_behind p at es)
  smaller b under =
      let left : length (left_behind p at es) ≡ suc (length (left_behind p e.0 es)) = ap length first.is ∙ ap (λ w. suc (length w)) (next_left p at es e first.rest sorted first.is) in
      let less = left_less p e.0 b (under_le b e.0 under) es in
      omega (arith, left, less)

-- the rows of a map are the children of the tree that it is seen as
pub rows_of_tree : {A E X : Type 0} (items : A → List (List ℕ × X)) (p : Names) (m : BTreeMap Names X) (tree : ByPath X) (r : Result A E) → IfOk r (λ a. items a ≡ filter_map (child_row p) m.entries) → OnOk r (IsOrdered path_cmp m)
    → map.from_entries {R = path_cmp} m.entries ≡ tree → IfOk r (λ a. items a ≡ children_below tree p)
rows_of_tree items p m tree (Ok a) rows ordered view =
    rows ∙ ap (filter_map (child_row p)) (sym (entries-from_tree path_cmp_total path_same m ordered)) ∙ ap (λ t. children_below t p) view
rows_of_tree items p m tree (Err e) rows ordered view = tt

-- the names of all rows
pub names_of_rows : {X : Type 0} (p : Names) (es : List (Names × X)) → list_map (λ row. row.0) (filter_map (child_row p) es) ≡ filter_map (λ e. name_below e.0 p) es
names_of_rows p [] = refl
names_of_rows {X} p (e ∷ es) =
    elim (name_below e.0 p) as (λ o. list_map (λ (row : List ℕ × X). row.0) (cons_option (option_map (λ name. (name, e.1)) o) (filter_map (child_row p) es)) ≡ cons_option o (filter_map (λ (x : Names × X). name_below x.0 p) es)) [
      | None ↦ names_of_rows p es
      | Some n ↦ ap (λ l. n ∷ l) (names_of_rows p es)
    ]
