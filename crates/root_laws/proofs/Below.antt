-- What stands below a path of a closed tree.
use Rattle.std.proofs.Common.{◌≡◌, ◌≢◌, ◌⊎◌, inl, inr, ℕ, ◌+◌, ◌<◌, zero, suc, Bool, true, false, ◌||◌, ◌&&◌, List, [], ◌∷◌, ◌++◌, length, refl, sym, ap, ◌∙◌, Some, None, bytes_eq, arith, length-append}
use Rattle.std.specs.FinMap as map
use Rattle.std.specs.Prelude.{is_some}
use Rattle.std.specs.List.{list_any}
use Rattle.std.specs.Map.{keys_of}
use Rattle.std.specs.Ordering.{eq_by_cmp}
use Rattle.sync_path.specs.Path.{path_cmp, is_under, is_below}
use Rattle.entry_tree.specs.Tree.{Names, ByPath, IsClosed, holds_folder, has_below}
use Rattle.entry_tree.proofs.Paths.{name_is}
use Rattle.entry_tree.proofs.Trees.{root_or_child, tie_is}

-- a child of a path that lies below another lies there too, or is a child of that other
up_or_itself : (p q : Names) (n : List ℕ) → is_below (p ++ n ∷ []) q ≡ true → (is_below p q ≡ true) ⊎ (p ≡ q)
up_or_itself [] [] n h = inr refl
up_or_itself [] (y ∷ q) n h = absurd (no_below n y q h)
  where
    no_below : (n y : List ℕ) (q : Names) → is_below (n ∷ []) (y ∷ q) ≡ true → ⊥
    no_below n y [] h = elim (bytes_eq y n) as (λ b. (b && false) ≡ true → ⊥) [ true ↦ λ g. cc | false ↦ λ g. cc ] h
    no_below n y (z ∷ q) h = elim (bytes_eq y n) as (λ b. (b && false) ≡ true → ⊥) [ true ↦ λ g. cc | false ↦ λ g. cc ] h
up_or_itself (x ∷ p) [] n h = inl refl
up_or_itself (x ∷ p) (y ∷ q) n h =
    elim (bytes_eq y x) as (λ b. bytes_eq y x ≡ b → (b && is_below (p ++ n ∷ []) q) ≡ true → ((b && is_below p q) ≡ true) ⊎ (x ∷ p ≡ y ∷ q)) [
      | true ↦ λ e g. elim (up_or_itself p q n g) [
        | inl below ↦ inl below
        | inr is ↦ inr (λ i. sym (name_is y x e) i ∷ is i)
      ]
      | false ↦ λ e g. absurd (cc)
    ] refl h

root_below : (p : Names) → is_below [] p ≡ true → ⊥
root_below [] h = cc
root_below (y ∷ p) h = cc

module _ {X : Type 0} (is_folder : X → Bool) (tree : ByPath X) (closed : IsClosed is_folder tree) (p : Names) (no_folder : holds_folder is_folder (map.get tree p) ≡ false) where
  folder_there : (q : Names) → is_some (map.get tree q) ≡ false → holds_folder is_folder (map.get tree q) ≡ true → ⊥
  folder_there q none folder =
      elim (map.get tree q) as (λ o. is_some o ≡ false → holds_folder is_folder o ≡ true → ⊥) [ None ↦ λ _ g. cc | Some y ↦ λ e _. cc ] none folder

  below_by : (k : ℕ) (q : Names) → length q < k → is_below q p ≡ true → is_some (map.get tree q) ≡ false
  below_by zero q short below = absurd (omega arith)
  below_by (suc k) q short below =
      elim (root_or_child q) [
        | inl e ↦ absurd (root_below p (ap (λ r. is_below r p) (sym e) ∙ below))
        | inr c ↦
            let parent : Names = c.0 in
            let child : Names = c.0 ++ c.1 ∷ [] in
            let shorter : length parent < k = let e : length q ≡ length child = ap length c.2 in omega (arith, length-append parent (c.1 ∷ [])) in
            elim (is_some (map.get tree q)) as (λ b. is_some (map.get tree q) ≡ b → b ≡ false) [
              | false ↦ λ _. refl
              | true ↦ λ stands.
                  let folder : holds_folder is_folder (map.get tree parent) ≡ true = closed parent c.1 (ap (λ (r : Names). is_some (map.get tree r)) (sym c.2) ∙ stands) in
                  elim (up_or_itself parent p c.1 (ap (λ r. is_below r p) (sym c.2) ∙ below)) [
                    | inl up ↦ absurd (folder_there parent (below_by k parent shorter up) folder)
                    | inr is ↦ absurd (let e : false ≡ true = sym no_folder ∙ ap (λ (r : Names). holds_folder is_folder (map.get tree r)) (sym is) ∙ folder in cc)
                  ]
            ] refl
      ]

  -- nothing stands below a path of a closed tree at which there is no folder
  pub none_below : (q : Names) → is_below q p ≡ true → is_some (map.get tree q) ≡ false
  none_below q below = below_by (length q + 1) q (omega arith) below

-- what lies under a path and is another lies below it
pub under_is_below : (q p : Names) → is_under q p ≡ true → q ≢ p → is_below q p ≡ true
under_is_below [] [] h apart = absurd (apart refl)
under_is_below (x ∷ q) [] h apart = refl
under_is_below [] (y ∷ p) h apart = absurd (cc)
under_is_below (x ∷ q) (y ∷ p) h apart =
    elim (bytes_eq y x) as (λ b. bytes_eq y x ≡ b → (b && is_under q p) ≡ true → (b && is_below q p) ≡ true) [
      | true ↦ λ e g. under_is_below q p g (λ is. apart (λ i. sym (name_is y x e) i ∷ is i))
      | false ↦ λ e g. absurd (cc)
    ] refl h

or_false : (a b : Bool) → (a || b) ≡ false → (a ≡ false) × (b ≡ false)
or_false true b h = absurd (cc)
or_false false b h = (refl, h)

no_key : {X : Type 0} (p q : Names) (es : List (Names × X)) → is_below q p ≡ true → list_any (λ e. is_below e.0 p) es ≡ false → list_any (eq_by_cmp path_cmp q) (keys_of es) ≡ false
no_key p q [] below h = refl
no_key p q (e ∷ es) below h =
    let both = or_false (is_below e.0 p) (list_any (λ e. is_below e.0 p) es) h in
    elim (eq_by_cmp path_cmp q e.0) as (λ b. eq_by_cmp path_cmp q e.0 ≡ b → (b || list_any (eq_by_cmp path_cmp q) (keys_of es)) ≡ false) [
      | true ↦ λ tie. absurd (let n : true ≡ false = sym below ∙ ap (λ r. is_below r p) (tie_is q e.0 tie) ∙ both.0 in cc)
      | false ↦ λ _. no_key p q es below both.1
    ] refl

-- where nothing stands below a path, no path below it holds anything
pub none_where_empty : {X : Type 0} (tree : ByPath X) (p q : Names) → has_below tree p ≡ false → is_below q p ≡ true → is_some (map.get tree q) ≡ false
none_where_empty tree p q empty below = map.contains_key-keys tree q ∙ no_key p q (map.entries tree) below empty
