-- What stands directly below a path.
use Rattle.std.proofs.Common.{◌≡◌, ◌+◌, Bool, true, false, cond, ◌&&◌, List, [], ◌∷◌, length, bytes_eq, refl, sym, ap, ◌∙◌, Option, Some, None, arith}
use Rattle.std.specs.List.{filter, filter_map, cons_option, list_any}
use Rattle.std.specs.Map.Iter.{TakesFirst}
use Rattle.std.specs.Option.{is_some, option_map}
use Rattle.sync_path.specs.Path.{is_under, last_name}
use Rattle.entry_tree.specs.Tree.{Names, is_below, name_below, child_row}
use Rattle.entry_tree.proofs.Paths.{both_true}

-- one name deeper than the path that it lies under, a path stands directly below it by its last name
pub name_is_last : (k p : Names) → is_under k p ≡ true → length k ≡ length p + 1 → name_below k p ≡ last_name k
name_is_last [] p h n = refl
name_is_last (x ∷ []) [] h n = refl
name_is_last (x ∷ y ∷ k) [] h n = absurd (omega arith)
name_is_last (x ∷ []) (m ∷ p) h n = absurd (omega arith)
name_is_last (x ∷ y ∷ k) (m ∷ p) h n =
    let parts = both_true (bytes_eq m x) (is_under (y ∷ k) p) h in
    ap (λ b. cond b (name_below (y ∷ k) p) None) parts.0 ∙ name_is_last (y ∷ k) p parts.1 (omega arith)

pub no_name_by_depth : (k p : Names) → (length k ≡ length p + 1 → ⊥) → name_below k p ≡ None
no_name_by_depth [] p h = refl
no_name_by_depth (x ∷ []) [] h = absurd (h (omega arith))
no_name_by_depth (x ∷ y ∷ k) [] h = refl
no_name_by_depth (x ∷ k) (m ∷ p) h =
    elim (bytes_eq m x) as (λ b. cond b (name_below k p) None ≡ None) [ true ↦ no_name_by_depth k p (λ e. h (omega arith)) | false ↦ refl ]

pub no_name_aside : (k p : Names) → is_under k p ≡ false → name_below k p ≡ None
no_name_aside [] [] h = absurd (cc)
no_name_aside (x ∷ k) [] h = absurd (cc)
no_name_aside [] (m ∷ p) h = refl
no_name_aside (x ∷ k) (m ∷ p) h =
    elim (bytes_eq m x) as (λ b. (b && is_under k p) ≡ false → cond b (name_below k p) None ≡ None) [ true ↦ λ e. no_name_aside k p e | false ↦ λ e. refl ] h

no_name_above : (k p : Names) → is_below k p ≡ false → name_below k p ≡ None
no_name_above [] [] h = refl
no_name_above (x ∷ k) [] h = absurd (cc)
no_name_above [] (m ∷ p) h = refl
no_name_above (x ∷ k) (m ∷ p) h =
    elim (bytes_eq m x) as (λ b. (b && is_below k p) ≡ false → cond b (name_below k p) None ≡ None) [ true ↦ λ e. no_name_above k p e | false ↦ λ e. refl ] h

-- all that stands directly below a path stands below it
pub rows_are_below : {X : Type 0} (p : Names) (es : List (Names × X)) → filter_map (child_row p) (filter (λ e. is_below e.0 p) es) ≡ filter_map (child_row p) es
rows_are_below p [] = refl
rows_are_below {X} p (e ∷ es) =
    let below = filter (λ (x : Names × X). is_below x.0 p) es in
    elim (is_below e.0 p) as (λ b. is_below e.0 p ≡ b → filter_map (child_row p) (cond b (e ∷ below) below) ≡ cons_option (child_row p e) (filter_map (child_row p) es)) [
      | true ↦ λ _. ap (cons_option (child_row p e)) (rows_are_below p es)
      | false ↦ λ h. rows_are_below p es ∙ ap (λ o. cons_option (option_map (λ name. (name, e.1)) o) (filter_map (child_row p) es)) (sym (no_name_above e.0 p h))
    ] refl

has_first : {A : Type 0} → List A → Bool
has_first [] = false
has_first (x ∷ xs) = true

any_is_first : {A : Type 0} (test : A → Bool) (es : List A) → list_any test es ≡ has_first (filter test es)
unfolding has_first
any_is_first test [] = refl
any_is_first test (e ∷ es) =
    elim (test e) as (λ b. Rattle.std.proofs.Common.◌||◌ b (list_any test es) ≡ has_first (cond b (e ∷ filter test es) (filter test es))) [ true ↦ refl | false ↦ any_is_first test es ]

-- a walk over what passes a test meets something first exactly where something passes
pub first_met : {A X : Type 0} (shows : A → X) (test : X → Bool) (es : List X) (r : Option A) (rest : List X) → TakesFirst shows (filter test es) r rest → is_some r ≡ list_any test es
unfolding has_first
first_met shows test es None rest h = sym (any_is_first test es ∙ ap has_first h.0)
first_met shows test es (Some x) rest h = sym (any_is_first test es ∙ ap has_first h)
