-- Trees stay closed under parents.
use Rattle.std.proofs.Common.{◌≡◌, ◌⊎◌, inl, inr, ℕ, Bool, true, false, cond, not, ◌||◌, List, [], ◌∷◌, ◌++◌, append_assoc, refl, sym, ap, ◌∙◌, Option, Some, None}
use Rattle.std.specs.FinMap as map
use Rattle.std.specs.Option.{is_some, option_map}
use Rattle.std.specs.Ordering.{eq_by_cmp, is_lt}
use Rattle.sync_path.specs.Path.{path_cmp, is_under, parent_of}
use Rattle.sync_path.specs.PathOrder.{path_cmp_total}
use Rattle.sync_path.proofs.Intervals.{rest_from_under}
use Rattle.std.proofs.lemmas.List.{append-nil}
use Rattle.entry_tree.specs.Tree.{Names, ByPath, is_below, holds_folder, IsClosed, set_at, without_below, without_under, at_parent, refusal}
use Rattle.entry_tree.specs.declared.tree_error.TreeError.TheVariants.{NotDir}
use Rattle.entry_tree.proofs.Maps.{alike}
use Rattle.entry_tree.proofs.Paths.{both_true, below_is, path_same, tied, under_child, below_child, child_below, not_below_child, not_below_itself}

pub no_true : (b : Bool) → b ≡ true → b ≡ false → ⊥
no_true b h g = let e : true ≡ false = sym h ∙ g in absurd (cc)

-- the parent of a child
pub parent-child : (p : Names) (n : List ℕ) → parent_of (p ++ n ∷ []) ≡ Some p
parent-child [] n = refl
parent-child (x ∷ []) n = refl
parent-child (x ∷ y ∷ p) n = ap (option_map (λ above. x ∷ above)) (parent-child (y ∷ p) n)

not_true : false ≡ true → ⊥
not_true h = absurd (cc)

-- what is kept by a test was there
kept : {X : Type 0} (b : Bool) (o : Option X) → is_some (cond b o None) ≡ true → (b ≡ true) × (is_some o ≡ true)
kept true o h = (refl, h)
kept false o h = absurd (not_true h)

pub tie_is : (q p : Names) → eq_by_cmp path_cmp q p ≡ true → q ≡ p
tie_is q p h = path_same q p (tied (path_cmp q p) h)

apart_child : (q : Names) (n : List ℕ) → eq_by_cmp path_cmp q (q ++ n ∷ []) ≡ false
apart_child q n =
    elim (eq_by_cmp path_cmp q (q ++ n ∷ [])) as (λ b. eq_by_cmp path_cmp q (q ++ n ∷ []) ≡ b → b ≡ false) [
      | true ↦ λ e. absurd (no_true (is_below q q) (ap (λ z. is_below z q) (tie_is q (q ++ n ∷ []) e) ∙ child_below q n) (not_below_itself q))
      | false ↦ λ e. refl
    ] refl

-- what doesn't lie under a path has a parent that doesn't
pub not_under_up : (p q : Names) (n : List ℕ) → not (is_under (q ++ n ∷ []) p) ≡ true → not (is_under q p) ≡ true
not_under_up p q n h =
    elim (is_under q p) as (λ b. is_under q p ≡ b → not b ≡ true) [
      | true ↦ λ e. absurd (no_true (not (is_under (q ++ n ∷ []) p)) h (ap not (under_child q p n e)))
      | false ↦ λ e. refl
    ] refl

-- a path is the root, or a child of its parent
pub root_or_child : (path : Names) → (path ≡ []) ⊎ ((p : Names) × (n : List ℕ) × (path ≡ p ++ n ∷ []))
root_or_child [] = inl refl
root_or_child (x ∷ path) =
    elim (root_or_child path) [
      | inl e ↦ inr ([], x, ap (λ l. x ∷ l) e)
      | inr c ↦ inr (x ∷ c.0, c.1, ap (λ l. x ∷ l) c.2)
    ]

below_under : (q p : Names) → is_below q p ≡ true → is_under q p ≡ true
below_under q p h = (both_true (is_lt (path_cmp p q)) (is_under q p) (sym (below_is q p) ∙ h)).1

none_stands : {X : Type 0} (o : Option X) → (is_some o ≡ true → ⊥) → o ≡ None
none_stands None h = refl
none_stands (Some x) h = absurd (h refl)

module _ {X : Type 0} (is_folder : X → Bool) where
  folder_stands : (o : Option X) → holds_folder is_folder o ≡ true → is_some o ≡ true
  folder_stands None h = absurd (not_true h)
  folder_stands (Some x) h = refl

  -- the empty tree
  pub closed_empty : IsClosed is_folder map.empty
  closed_empty path name h = absurd (not_true (ap is_some (sym (map.get-empty path_cmp (path ++ name ∷ []))) ∙ h))

  module _ (tree : ByPath X) where
    -- a look-up in a part of a tree
    pub get-retain : (keep : Names → Bool) (q : Names) → map.get (map.retain_keys tree keep) q ≡ cond (keep q) (map.get tree q) None
    get-retain keep q = map.get-retain_keys tree keep q (alike path_same keep q)

    module _ (closed : IsClosed is_folder tree) where
      -- a part of a tree that has the parent of each path in it
      pub closed_retain : (keep : Names → Bool) → ((path : Names) (name : List ℕ) → keep (path ++ name ∷ []) ≡ true → keep path ≡ true) → IsClosed is_folder (map.retain_keys tree keep)
      closed_retain keep up path name h =
          let stood = kept (keep (path ++ name ∷ [])) (map.get tree (path ++ name ∷ [])) (ap is_some (sym (get-retain keep (path ++ name ∷ []))) ∙ h) in
          ap (holds_folder is_folder) (get-retain keep path ∙ ap (λ b. cond b (map.get tree path) None) (up path name stood.0)) ∙ closed path name stood.1

      -- where nothing stands at a path, nothing stands under it
      stands_up : (s p : Names) → map.contains_key tree (p ++ s) ≡ true → map.contains_key tree p ≡ true
      stands_up [] p h = ap (map.contains_key tree) (sym (append-nil p)) ∙ h
      stands_up (n ∷ s) p h =
          let same : (p ++ n ∷ []) ++ s ≡ p ++ n ∷ s = simp append_assoc in
          folder_stands (map.get tree p) (closed p n (stands_up s (p ++ n ∷ []) (ap (map.contains_key tree) same ∙ h)))

      pub nothing_under : (p : Names) → map.get tree p ≡ None → without_under tree p ≡ tree
      nothing_under p none =
          map.same_map path_cmp_total path_same (without_under tree p) tree
          (λ q. get-retain (λ k. not (is_under k p)) q
          ∙ elim (is_under q p) as (λ b. is_under q p ≡ b → cond (not b) (map.get tree q) None ≡ map.get tree q) [
            | true ↦ λ u. let rest = rest_from_under q p u in
                sym (none_stands (map.get tree q) (λ h. no_true (map.contains_key tree p) (stands_up rest.0 p (ap (map.contains_key tree) (sym rest.1) ∙ h)) (ap is_some none)))
            | false ↦ λ u. refl
          ] refl)

      -- nor below it
      nothing_below : (p : Names) → map.get tree p ≡ None → without_below tree p ≡ tree
      nothing_below p none =
          map.same_map path_cmp_total path_same (without_below tree p) tree
          (λ q. get-retain (λ k. not (is_below k p)) q
          ∙ elim (is_below q p) as (λ b. is_below q p ≡ b → cond (not b) (map.get tree q) None ≡ map.get tree q) [
            | true ↦ λ u. let rest = rest_from_under q p (below_under q p u) in
                sym (none_stands (map.get tree q) (λ h. no_true (map.contains_key tree p) (stands_up rest.0 p (ap (map.contains_key tree) (sym rest.1) ∙ h)) (ap is_some none)))
            | false ↦ λ u. refl
          ] refl)

      -- so to set anything there is to put it in
      pub set_anew : (p : Names) (x : X) → map.get tree p ≡ None → map.insert tree p x ≡ set_at is_folder tree p x
      set_anew p x none =
          elim (is_folder x) as (λ b. map.insert tree p x ≡ map.insert (cond b tree (without_below tree p)) p x) [
            | true ↦ refl
            | false ↦ ap (λ t. map.insert t p x) (sym (nothing_below p none))
          ]

  -- which paths a tree keeps where x is set
  abbrev keeps : Names → X → Names → Bool
  keeps p x q = is_folder x || not (is_below q p)

  folder_allowed : (o : Option X) → holds_folder is_folder o ≡ true → refusal is_folder (Some o) ≡ None
  folder_allowed None h = absurd (not_true h)
  folder_allowed (Some y) h = ap (λ b. cond b None (Some NotDir)) h

  folder_allows : (o : Option X) → refusal is_folder (Some o) ≡ None → holds_folder is_folder o ≡ true
  folder_allows None h = absurd (not_true (ap is_some (sym h)))
  folder_allows (Some y) h =
      elim (is_folder y) as (λ b. cond b None (Some NotDir) ≡ None → b ≡ true) [ true ↦ λ e. refl | false ↦ λ e. absurd (not_true (ap is_some (sym e))) ] h

  below_kept : (p : Names) (x : X) (n : List ℕ) → keeps p x (p ++ n ∷ []) ≡ true → is_folder x ≡ true
  below_kept p x n h =
      elim (is_folder x) as (λ b. (b || not (is_below (p ++ n ∷ []) p)) ≡ true → b ≡ true) [
        | true ↦ λ e. refl
        | false ↦ λ e. absurd (no_true (not (is_below (p ++ n ∷ []) p)) e (ap not (child_below p n)))
      ] h

  keeps_up : (p : Names) (x : X) (q : Names) (n : List ℕ) → keeps p x (q ++ n ∷ []) ≡ true → keeps p x q ≡ true
  keeps_up p x q n h =
      elim (is_folder x) as (λ b. (b || not (is_below (q ++ n ∷ []) p)) ≡ true → (b || not (is_below q p)) ≡ true) [
        | true ↦ λ e. refl
        | false ↦ λ e. elim (is_below q p) as (λ b. is_below q p ≡ b → not b ≡ true) [
          | true ↦ λ i. absurd (no_true (not (is_below (q ++ n ∷ []) p)) e (ap not (below_child q p n i)))
          | false ↦ λ i. refl
        ] refl
      ] h

  module _ (tree : ByPath X) (p : Names) (x : X) where
    -- what the tree holds where x was set
    pub get-set : (q : Names) → map.get (set_at is_folder tree p x) q ≡ cond (eq_by_cmp path_cmp q p) (Some x) (cond (keeps p x q) (map.get tree q) None)
    get-set q =
        map.get-insert path_cmp_total (cond (is_folder x) tree (without_below tree p)) p x q
        ∙ ap (cond (eq_by_cmp path_cmp q p) (Some x))
        (elim (is_folder x) as (λ b. map.get (cond b tree (without_below tree p)) q ≡ cond (b || not (is_below q p)) (map.get tree q) None) [
          | true ↦ refl
          | false ↦ get-retain tree (λ r. not (is_below r p)) q
        ])

    -- the tree stays closed where its parent holds a folder
    pub closed_set : IsClosed is_folder tree → refusal is_folder (at_parent tree p) ≡ None → IsClosed is_folder (set_at is_folder tree p x)
    closed_set closed allowed q n h =
        let child : Names = q ++ n ∷ [] in
        let held : is_some (cond (eq_by_cmp path_cmp child p) (Some x) (cond (keeps p x child) (map.get tree child) None)) ≡ true =
        ap is_some (sym (get-set child)) ∙ h in
        ap (holds_folder is_folder) (get-set q)
        ∙ elim (eq_by_cmp path_cmp child p) as (λ b. eq_by_cmp path_cmp child p ≡ b → is_some (cond b (Some x) (cond (keeps p x child) (map.get tree child) None)) ≡ true
        → holds_folder is_folder (cond (eq_by_cmp path_cmp q p) (Some x) (cond (keeps p x q) (map.get tree q) None)) ≡ true) [
          | true ↦ λ e _.
              let is : child ≡ p = tie_is child p e in
              let folder : holds_folder is_folder (map.get tree q) ≡ true =
              folder_allows (map.get tree q) (ap (λ (o : Option Names). refusal is_folder (option_map (map.get tree) o)) (sym (parent-child q n) ∙ ap parent_of is) ∙ allowed) in
              let stays : keeps p x q ≡ true =
              elim (is_folder x) as (λ b. (b || not (is_below q p)) ≡ true) [ true ↦ refl | false ↦ ap (λ z. not (is_below q z)) (sym is) ∙ ap not (not_below_child q n) ] in
              ap (λ b. holds_folder is_folder (cond b (Some x) (cond (keeps p x q) (map.get tree q) None))) (ap (eq_by_cmp path_cmp q) (sym is) ∙ apart_child q n)
              ∙ ap (λ b. holds_folder is_folder (cond b (map.get tree q) None)) stays
              ∙ folder
          | false ↦ λ e g.
              let stood = kept (keeps p x child) (map.get tree child) g in
              elim (eq_by_cmp path_cmp q p) as (λ b. eq_by_cmp path_cmp q p ≡ b → holds_folder is_folder (cond b (Some x) (cond (keeps p x q) (map.get tree q) None)) ≡ true) [
                | true ↦ λ t. below_kept p x n (ap (λ z. keeps p x (z ++ n ∷ [])) (sym (tie_is q p t)) ∙ stood.0)
                | false ↦ λ t. ap (λ b. holds_folder is_folder (cond b (map.get tree q) None)) (keeps_up p x q n stood.0) ∙ closed q n stood.1
              ] refl
        ] refl held

    -- setting, and then taking away what was below
    pub set_then_clear : map.retain_keys (map.insert tree p x) (λ q. not (is_below q p)) ≡ map.insert (without_below tree p) p x
    set_then_clear =
        map.same_map path_cmp_total path_same _ _
        (λ q. get-retain (map.insert tree p x) (λ r. not (is_below r p)) q
        ∙ ap (λ o. cond (not (is_below q p)) o None) (map.get-insert path_cmp_total tree p x q)
        ∙ swapped q
        ∙ ap (cond (eq_by_cmp path_cmp q p) (Some x)) (sym (get-retain tree (λ r. not (is_below r p)) q))
        ∙ sym (map.get-insert path_cmp_total (without_below tree p) p x q))
      where
        swapped : (q : Names) → cond (not (is_below q p)) (cond (eq_by_cmp path_cmp q p) (Some x) (map.get tree q)) None
            ≡ cond (eq_by_cmp path_cmp q p) (Some x) (cond (not (is_below q p)) (map.get tree q) None)
        swapped q = elim (eq_by_cmp path_cmp q p) as (λ b. eq_by_cmp path_cmp q p ≡ b → cond (not (is_below q p)) (cond b (Some x) (map.get tree q)) None ≡ cond b (Some x) (cond (not (is_below q p)) (map.get tree q) None)) [
          | true ↦ λ e. ap (λ b. cond (not b) (Some x) None) (ap (λ z. is_below z p) (tie_is q p e) ∙ not_below_itself p)
          | false ↦ λ e. refl
        ] refl

    -- to set a folder is to put it in
    pub set_as_folder : is_folder x ≡ true → map.insert tree p x ≡ set_at is_folder tree p x
    set_as_folder h = ap (λ b. map.insert (cond b tree (without_below tree p)) p x) (sym h)

    -- to set another is to put it in and to take away what is below
    pub set_as_leaf : is_folder x ≡ false → map.retain_keys (map.insert tree p x) (λ q. not (is_below q p)) ≡ set_at is_folder tree p x
    set_as_leaf h = set_then_clear ∙ ap (λ b. map.insert (cond b tree (without_below tree p)) p x) (sym h)

  module _ (tree : ByPath X) (p : Names) where
    -- where a path is in a tree, its parent holds a folder
    pub stands_allowed : IsClosed is_folder tree → is_some (map.get tree p) ≡ true → refusal is_folder (at_parent tree p) ≡ None
    stands_allowed closed h =
        elim (root_or_child p) [
          | inl e ↦ ap (λ (q : Names). refusal is_folder (at_parent tree q)) e
          | inr c ↦
              let folder = closed c.0 c.1 (ap (λ (q : Names). is_some (map.get tree q)) (sym c.2) ∙ h) in
              ap (λ (q : Names). refusal is_folder (at_parent tree q)) c.2
              ∙ ap (λ (o : Option Names). refusal is_folder (option_map (map.get tree) o)) (parent-child c.0 c.1)
              ∙ folder_allowed (map.get tree c.0) folder
        ]
