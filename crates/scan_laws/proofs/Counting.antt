-- How many rows a scan of a state lists.
use Rattle.std.proofs.Common.{◌≡◌, inl, inr, ℕ, ◌+◌, ◌<◌, ◌≤◌, zero, suc, Bool, true, false, not, cond, ◌&&◌, ◌||◌, List, [], ◌∷◌, ◌++◌, length, filter, filter_map, refl, sym, ap, subst, ◌∙◌, Option, Some, None, option_map, option_and_then, arith}
use Rattle.std.specs.Prelude.{unwrap_or}
use Rattle.std.specs.FinMap as map
use Rattle.std.specs.FinMap.Entries.{find}
use Rattle.std.specs.Map.{keys_of}
use Rattle.finite_maps.proofs.SortedLists.{sorted-from_is_sorted}
use Rattle.std.specs.Cmp.{tied_itself}
use Rattle.std.specs.List.{AllByRecursion, cons_option}
use Rattle.std.specs.List.Sorted.{IsStrictlySortedBy}
use Rattle.std.specs.Option.{is_some}
use Rattle.std.specs.Ordering.{eq_by_cmp, is_eq, ordering_reverse}
use Rattle.std.specs.declared.cmp.Ordering.TheVariants.{Less}
use Rattle.std.proofs.lemmas.List.{length-append}
use Rattle.std.proofs.lemmas.Map.Keys.{sorted_head, sorted_tail}
use Rattle.sync_path.specs.Path.{path_cmp, parent_of}
use Rattle.sync_path.specs.PathOrder.{path_cmp_total}
use Rattle.entry_tree.specs.Tree.{Names, ByPath, is_below, name_below, child_row, children_below}
use Rattle.entry_tree.specs.declared.entry.Entry.{Entry}
use Rattle.entry_tree.specs.declared.entry.Entry.TheVariants as entry
use Rattle.entry_tree.specs.declared.entry.Stamp.{Stamp}
use Rattle.entry_tree.proofs.Trees.{root_or_child, tie_is, parent-child}
use Rattle.ignore_glob.specs.Grammar.{Meaning}
use Rattle.roots_api.proofs.ListedRows.{name_below_is}
use Rattle.roots_api.specs.States.{RootState}
use Rattle.roots_api.specs.declared.answer.Answer.{Answer}
use Rattle.roots_api.specs.declared.answer.Answer.TheVariants.{Listed, Held}
use Rattle.roots_api.specs.declared.op.Op.TheVariants.{List as OpList, Fetch}
use Rattle.scan_laws.specs.Look.{is_reached}
use Rattle.scan_laws.specs.Seen.{Heard, row_named, rows_of, row_by}
use Rattle.scan_laws.specs.Undisturbed.{look_rows}
use Rattle.scan_cache.specs.declared.line.Line.{Line}
use Rattle.sync_path.proofs.Ends.{last_name-push}
use Rattle.scan_laws.proofs.Heard.{row_in}
use Rattle.scan_laws.proofs.Looking.{name_of_child, reached_child}
use Rattle.scan_laws.proofs.Points.{Bytes, with_heard, listed_in, listed-other, listed-here, listed-fetch}
use Rattle.scan_laws.proofs.Reading.{Reads}
use Rattle.scan_laws.proofs.Seeing.{itself}

-- ---- counts

pub below_root : (f : Names) (n : List ℕ) → is_below (f ++ n ∷ []) [] ≡ true
below_root [] n = refl
below_root (x ∷ f) n = refl

bits : (p q : Bool) → (p && q) ≡ false → cond (p || q) 1 0 ≡ cond p 1 0 + cond q 1 0
bits true true h = absurd (cc)
bits true false h = refl
bits false true h = refl
bits false false h = refl

bit_le : (p q : Bool) → (p ≡ true → q ≡ true) → cond p 1 0 ≤ cond q 1 0
bit_le true q h = let e : ◌≡◌ {A = ℕ} (cond q 1 0) 1 = ap (λ (c : Bool). cond {A = ℕ} c 1 0) (h refl) in omega (arith, e)
bit_le false q h = omega arith

module _ {X : Type 0} where
  length_kept : (p : Bool) (x : X) (xs : List X) → length (cond p (x ∷ xs) xs) ≡ cond p 1 0 + length xs
  length_kept true x xs = omega arith
  length_kept false x xs = omega arith

  length_joined : (o : Option X) (xs : List X) → length (cons_option o xs) ≡ cond (is_some o) 1 0 + length xs
  length_joined None xs = omega arith
  length_joined (Some x) xs = omega arith

  -- what passes one of two tests, of which no two pass together
  filter_either : (a b c : X → Bool) → ((x : X) → c x ≡ (a x || b x)) → ((x : X) → (a x && b x) ≡ false) → (xs : List X) → length (filter c xs) ≡ length (filter a xs) + length (filter b xs)
  filter_either a b c either apart [] = omega arith
  filter_either a b c either apart (x ∷ xs) =
      let rest : length (filter c xs) ≡ length (filter a xs) + length (filter b xs) = filter_either a b c either apart xs in
      let n : length (cond (c x) (x ∷ filter c xs) (filter c xs)) ≡ cond (c x) 1 0 + length (filter c xs) = length_kept (c x) x (filter c xs) in
      let k : length (cond (a x) (x ∷ filter a xs) (filter a xs)) ≡ cond (a x) 1 0 + length (filter a xs) = length_kept (a x) x (filter a xs) in
      let l : length (cond (b x) (x ∷ filter b xs) (filter b xs)) ≡ cond (b x) 1 0 + length (filter b xs) = length_kept (b x) x (filter b xs) in
      let e : cond (c x) 1 0 ≡ cond (a x) 1 0 + cond (b x) 1 0 = ap (λ t. cond t 1 0) (either x) ∙ bits (a x) (b x) (apart x) in
      omega arith

  -- what passes a stronger test
  filter_le : (a b : X → Bool) → ((x : X) → a x ≡ true → b x ≡ true) → (xs : List X) → length (filter a xs) ≤ length (filter b xs)
  filter_le a b each [] = omega arith
  filter_le a b each (x ∷ xs) =
      let rest : length (filter a xs) ≤ length (filter b xs) = filter_le a b each xs in
      let k : length (cond (a x) (x ∷ filter a xs) (filter a xs)) ≡ cond (a x) 1 0 + length (filter a xs) = length_kept (a x) x (filter a xs) in
      let l : length (cond (b x) (x ∷ filter b xs) (filter b xs)) ≡ cond (b x) 1 0 + length (filter b xs) = length_kept (b x) x (filter b xs) in
      let e : cond (a x) 1 0 ≤ cond (b x) 1 0 = bit_le (a x) (b x) (each x) in
      omega arith

  pub filter_none : (a : X → Bool) → ((x : X) → a x ≡ false) → (xs : List X) → length (filter a xs) ≡ 0
  filter_none a none [] = refl
  filter_none a none (x ∷ xs) = ap (λ c. length (cond c (x ∷ filter a xs) (filter a xs))) (none x) ∙ filter_none a none xs

  filter_same : (a b : X → Bool) → ((x : X) → a x ≡ b x) → (xs : List X) → filter a xs ≡ filter b xs
  filter_same a b same [] = refl
  filter_same a b same (x ∷ xs) = (λ i. cond (same x i) (x ∷ filter_same a b same xs i) (filter_same a b same xs i))

  pub filter_same_on : (a b : X → Bool) (xs : List X) → AllByRecursion (λ x. a x ≡ b x) xs → filter a xs ≡ filter b xs
  filter_same_on a b [] same = refl
  filter_same_on a b (x ∷ xs) same = (λ i. cond (same.0 i) (x ∷ filter_same_on a b xs same.1 i) (filter_same_on a b xs same.1 i))

  pub weaker : (P Q : X → Type 0) → ((x : X) → P x → Q x) → (xs : List X) → AllByRecursion P xs → AllByRecursion Q xs
  weaker P Q each [] all = tt
  weaker P Q each (x ∷ xs) all = (each x all.0, weaker P Q each xs all.1)

filter_map_length : {X Y : Type 0} (f : X → Option Y) (xs : List X) → length (filter_map f xs) ≡ length (filter (λ x. is_some (f x)) xs)
filter_map_length f [] = refl
filter_map_length f (x ∷ xs) =
    let rest : length (filter_map f xs) ≡ length (filter (λ y. is_some (f y)) xs) = filter_map_length f xs in
    let k : length (cons_option (f x) (filter_map f xs)) ≡ cond (is_some (f x)) 1 0 + length (filter_map f xs) = length_joined (f x) (filter_map f xs) in
    let l : length (cond (is_some (f x)) (x ∷ filter (λ y. is_some (f y)) xs) (filter (λ y. is_some (f y)) xs)) ≡ cond (is_some (f x)) 1 0 + length (filter (λ y. is_some (f y)) xs) = length_kept (is_some (f x)) x (filter (λ y. is_some (f y)) xs) in
    omega arith

-- ---- each entry of a tree stands in it

later_found : (e : Names × Entry) (es fs : List (Names × Entry)) → AllByRecursion (λ k. path_cmp e.0 k ≡ Less) (keys_of fs) → AllByRecursion (λ x. find path_cmp x.0 es ≡ Some x.1) fs
    → AllByRecursion (λ x. find path_cmp x.0 (e ∷ es) ≡ Some x.1) fs
later_found e es [] less all = tt
later_found e es (x ∷ fs) less all =
    let apart : eq_by_cmp path_cmp x.0 e.0 ≡ false = ap is_eq (path_cmp_total.antisymm x.0 e.0 ∙ ap ordering_reverse less.0) in
    (ap (λ b. cond b (Some e.1) (find path_cmp x.0 es)) apart ∙ all.0, later_found e es fs less.1 all.1)

each_found : (es : List (Names × Entry)) → IsStrictlySortedBy path_cmp (keys_of es) → AllByRecursion (λ x. find path_cmp x.0 es ≡ Some x.1) es
each_found [] sorted = tt
each_found (e ∷ es) sorted = (
  ap (λ b. cond b (Some e.1) (find path_cmp e.0 es)) (ap is_eq (tied_itself path_cmp_total e.0)),
  later_found e es es (sorted_head path_cmp e.0 (keys_of es) sorted) (each_found es (sorted_tail path_cmp e.0 (keys_of es) sorted)),
)

pub entries_stand : (tree : ByPath Entry) → AllByRecursion (λ x. map.get tree x.0 ≡ Some x.1) (map.entries tree)
entries_stand tree =
    weaker _ _ (λ x found. map.get-entries tree x.0 ∙ found) (map.entries tree)
    (each_found (map.entries tree) (sorted-from_is_sorted path_cmp (map.entries tree) (map.entries_sorted tree)))

-- ---- paths that a listed row names

abbrev pub has_rows : Option (Answer Bytes) → Bool
has_rows (Some (Listed rows)) = true
has_rows answer = false

mapped_some : {X Y : Type 0} (f : X → Y) (o : Option X) → is_some (option_map f o) ≡ is_some o
mapped_some f None = refl
mapped_some f (Some x) = refl

both_false : (a b : Bool) → b ≡ false → (a && b) ≡ false
both_false true b h = h
both_false false b h = refl

either_first : (a b : Bool) → b ≡ false → a ≡ (a || b)
either_first true b h = refl
either_first false b h = sym h

module _ (rules : List Meaning) (size : ℕ) (s : RootState) where
  -- whether the folder of a path was listed with rows
  abbrev pub rowed : List (Heard Bytes) → Names → Bool
  rowed hs q = has_rows (option_and_then (listed_in rules size hs) (parent_of q))

  abbrev pub count_rowed : List (Heard Bytes) → ℕ
  count_rowed hs = length (filter (λ e. rowed hs e.0) (map.entries s.tree))

  pub rowed_child : (hs : List (Heard Bytes)) (f : Names) (n : List ℕ) → rowed hs (f ++ n ∷ []) ≡ has_rows (listed_in rules size hs f)
  rowed_child hs f n = ap (λ (up : Option Names). has_rows (option_and_then (listed_in rules size hs) up)) (parent-child f n)

  no_child : (p f : Names) (n : List ℕ) → eq_by_cmp path_cmp f p ≡ false → is_some (name_below (f ++ n ∷ []) p) ≡ false
  no_child p f n apart =
      elim (name_below (f ++ n ∷ []) p) as (λ o. name_below (f ++ n ∷ []) p ≡ o → is_some o ≡ false) [
        | None ↦ λ e. refl
        | Some m ↦ λ e.
            let same : f ≡ p = ap (λ (o : Option Names). unwrap_or o f) (sym (parent-child f n) ∙ ap parent_of (name_below_is (f ++ n ∷ []) p m e) ∙ parent-child p m) in
            let clash : true ≡ false = sym (itself p) ∙ ap (λ r. eq_by_cmp path_cmp r p) (sym same) ∙ apart in
            absurd (cc)
      ] refl

  module _ (hs : List (Heard Bytes)) (p : Names) (unlisted : listed_in rules size hs p ≡ None) where
    -- the rows of one folder more
    module _ (rows : List (List ℕ × Entry)) where
      abbrev more : List (Heard Bytes)
      more = with_heard hs (OpList p) (Listed rows)

      record Splits (q : Names) : Type 0 where
        pub either : rowed more q ≡ (rowed hs q || is_some (name_below q p))
        pub apart : (rowed hs q && is_some (name_below q p)) ≡ false

      child_splits : (f : Names) (n : List ℕ) (c : Bool) → eq_by_cmp path_cmp f p ≡ c → Splits (f ++ n ∷ [])
      child_splits f n true e =
          let is : f ≡ p = tie_is f p e in
          let was : rowed hs (f ++ n ∷ []) ≡ false = rowed_child hs f n ∙ ap (λ r. has_rows (listed_in rules size hs r)) is ∙ ap has_rows unlisted in
          let now : rowed more (f ++ n ∷ []) ≡ true = rowed_child more f n ∙ ap (λ r. has_rows (listed_in rules size more r)) is ∙ ap has_rows (listed-here rules size hs p (Listed rows) unlisted (itself p)) in
          let child : is_some (name_below (f ++ n ∷ []) p) ≡ true = ap (λ r. is_some (name_below (f ++ n ∷ []) r)) (sym is) ∙ ap is_some (name_of_child f n) in
          record { either = now ∙ (λ i. sym was i || sym child i); apart = (λ i. was i && is_some (name_below (f ++ n ∷ []) p)) }
      child_splits f n false e =
          let same : rowed more (f ++ n ∷ []) ≡ rowed hs (f ++ n ∷ []) = rowed_child more f n ∙ ap has_rows (listed-other rules size hs p (Listed rows) f e) ∙ sym (rowed_child hs f n) in
          record {
            either = same ∙ either_first (rowed hs (f ++ n ∷ [])) (is_some (name_below (f ++ n ∷ []) p)) (no_child p f n e);
            apart = both_false (rowed hs (f ++ n ∷ [])) (is_some (name_below (f ++ n ∷ []) p)) (no_child p f n e);
          }

      all_splits : (q : Names) → Splits q
      all_splits q = elim (root_or_child q) [
        | inl is_root ↦ subst Splits (sym is_root) (record { either = refl; apart = refl })
        | inr child ↦ subst Splits (sym child.2) (child_splits child.0 child.1 (eq_by_cmp path_cmp child.0 p) refl)
      ]

      pub rows_count : rows ≡ children_below s.tree p → count_rowed more ≡ count_rowed hs + length rows
      rows_count are =
          let e = filter_either (λ e. rowed hs e.0) (λ e. is_some (child_row p e)) (λ e. rowed more e.0)
          (λ e. (all_splits e.0).either ∙ ap (λ b. rowed hs e.0 || b) (sym (mapped_some (λ name. (name, e.1)) (name_below e.0 p))))
          (λ e. ap (λ b. rowed hs e.0 && b) (mapped_some (λ name. (name, e.1)) (name_below e.0 p)) ∙ (all_splits e.0).apart)
          (map.entries s.tree) in
          e ∙ ap (λ n. count_rowed hs + n) (sym (filter_map_length (child_row p) (map.entries s.tree)) ∙ ap length (sym are))

    pub held_counts_none : (found : Option Entry) → count_rowed (with_heard hs (OpList p) (Held found)) ≡ count_rowed hs
    held_counts_none found =
        ap length (filter_same (λ e. rowed (with_heard hs (OpList p) (Held found)) e.0) (λ e. rowed hs e.0) (λ e. by (parent_of e.0)) (map.entries s.tree))
      where
        by : (up : Option Names) → has_rows (option_and_then (listed_in rules size (with_heard hs (OpList p) (Held found))) up) ≡ has_rows (option_and_then (listed_in rules size hs) up)
        by None = refl
        by (Some f) = elim (eq_by_cmp path_cmp f p) as (λ c. eq_by_cmp path_cmp f p ≡ c → has_rows (listed_in rules size (with_heard hs (OpList p) (Held found)) f) ≡ has_rows (listed_in rules size hs f)) [
          | true ↦ λ e.
              let is : f ≡ p = tie_is f p e in
              ap (λ r. has_rows (listed_in rules size (with_heard hs (OpList p) (Held found)) r)) is ∙ ap has_rows (listed-here rules size hs p (Held found) unlisted (itself p))
              ∙ sym (ap (λ r. has_rows (listed_in rules size hs r)) is ∙ ap has_rows unlisted)
          | false ↦ λ e. ap has_rows (listed-other rules size hs p (Held found) f e)
        ] refl

  pub fetch_counts_none : (hs : List (Heard Bytes)) (p : Names) (stamp : Stamp) (offset : ℕ) (answer : Answer Bytes) → count_rowed (with_heard hs (Fetch p stamp offset) answer) ≡ count_rowed hs
  fetch_counts_none hs p stamp offset answer =
      ap length (filter_same (λ e. rowed (with_heard hs (Fetch p stamp offset) answer) e.0) (λ e. rowed hs e.0) (λ e. by (parent_of e.0)) (map.entries s.tree))
    where
      by : (up : Option Names) → has_rows (option_and_then (listed_in rules size (with_heard hs (Fetch p stamp offset) answer)) up) ≡ has_rows (option_and_then (listed_in rules size hs) up)
      by None = refl
      by (Some f) = ap has_rows (listed-fetch rules size hs p answer stamp offset f)

  -- ---- what is reached

  module _ (before after : ByPath Line) (id : ℕ) (hs : List (Heard Bytes)) (reads : Reads rules size before s id after hs) where
    pub row_listed : (n : List ℕ) (l : Option (Answer Bytes)) → row_named n (rows_of l) ≡ Some entry.Dir → is_some l ≡ true
    row_listed n None h = absurd (cc)
    row_listed n (Some a) h = refl

    pub reached_where_listed : (k : ℕ) (q : Names) → length q < k → is_some (listed_in rules size hs q) ≡ true → is_reached rules q ≡ true
    reached_where_listed zero q short h = absurd (omega arith)
    reached_where_listed (suc k) q short h =
        let smaller = reached_where_listed k in
        elim (root_or_child q) [
          | inl is_root ↦ ap (is_reached rules) is_root
          | inr child ↦
              (let sizes : length q ≡ length child.0 + 1 = ap length child.2 ∙ length-append child.0 (child.1 ∷ []) in
              let was = reads.folders q h in
              let row : row_named child.1 (rows_of (listed_in rules size hs child.0)) ≡ Some entry.Dir = sym (row_child child.0 child.1) ∙ ap (row_in rules size hs) (sym child.2) ∙ was.row_is in
              let up = row_listed child.1 (listed_in rules size hs child.0) row in
              ap (is_reached rules) child.2 ∙ reached_child rules child.0 child.1 ∙ (λ i. smaller child.0 (omega arith) up i && not ((reads.folders child.0 up).followed i)))
        ]
      where
        row_child : (f : Names) (n : List ℕ) → row_in rules size hs (f ++ n ∷ []) ≡ row_named n (rows_of (listed_in rules size hs f))
        row_child f n = (λ i. row_by length rules size hs (parent-child f n i) (last_name-push f n i))

    rows_listed : (l : Option (Answer Bytes)) → has_rows l ≡ true → is_some l ≡ true
    rows_listed None h = absurd (cc)
    rows_listed (Some a) h = refl

    pub rowed_reached : (q : Names) → rowed hs q ≡ true → (is_below q [] && is_reached rules q) ≡ true
    rowed_reached q h =
        elim (root_or_child q) [
          | inl is_root ↦ absurd (let clash : false ≡ true = sym (ap (rowed hs) is_root) ∙ h in cc)
          | inr child ↦
              (let up = rows_listed (listed_in rules size hs child.0) (sym (rowed_child hs child.0 child.1) ∙ ap (rowed hs) (sym child.2) ∙ h) in
              ap (λ r. is_below r [] && is_reached rules r) child.2
              ∙ (λ i. below_root child.0 child.1 i && (reached_child rules child.0 child.1
              ∙ (λ j. reached_where_listed (suc (length child.0)) child.0 (omega arith) up j && not ((reads.folders child.0 up).followed j))) i))
        ]

    pub rows_within : count_rowed hs ≤ look_rows s rules
    rows_within = filter_le (λ e. rowed hs e.0) (λ e. is_below e.0 [] && is_reached rules e.0) (λ e. rowed_reached e.0) (map.entries s.tree)
