-- What lies below a path is what lies under it and stands behind it in path order.
use Rattle.std.proofs.Common.{◌≡◌, ℕ, Bool, true, false, ◌&&◌, List, [], ◌∷◌, bytes_eq, refl, sym, ap, ◌∙◌, Ordering}
use Rattle.std.specs.Cmp.Lexicographic.{slice_cmp, texts_ties}
use Rattle.std.specs.Ordering.{nat_cmp, is_eq, is_lt, ordering_then}
use Rattle.std.specs.declared.cmp.Ordering.TheVariants.{Less, Equal, Greater}
use Rattle.sync_path.specs.Path.{path_cmp, is_under, is_below}

pub tied : (r : Ordering) → is_eq r ≡ true → r ≡ Equal
tied Less h = absurd (cc)
tied Equal h = refl
tied Greater h = absurd (cc)

-- equal bytes are equal names
pub name_tie : (a b : List ℕ) → bytes_eq a b ≡ true → slice_cmp nat_cmp a b ≡ Equal
name_tie a b h = tied (slice_cmp nat_cmp a b) (sym (texts_ties a b) ∙ h)

and_false : (a : Bool) → false ≡ (a && false)
and_false true = refl
and_false false = refl

pub below_is : (k p : List (List ℕ)) → is_below k p ≡ (is_lt (path_cmp p k) && is_under k p)
below_is [] [] = refl
below_is (y ∷ k) [] = refl
below_is [] (n ∷ p) = refl
below_is (y ∷ k) (n ∷ p) =
    elim (bytes_eq n y) as (λ v. bytes_eq n y ≡ v → (v && is_below k p) ≡ (is_lt (path_cmp (n ∷ p) (y ∷ k)) && (v && is_under k p))) [
      | true ↦ λ e. below_is k p ∙ ap (λ r. is_lt (ordering_then r (path_cmp p k)) && is_under k p) (sym (name_tie n y e))
      | false ↦ λ e. and_false (is_lt (path_cmp (n ∷ p) (y ∷ k)))
    ] refl
