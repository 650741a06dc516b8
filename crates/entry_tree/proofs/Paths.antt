-- How paths lie to one another, and what lies below one.
use Rattle.std.proofs.Common.{◌≡◌, ℕ, Bool, true, false, ◌&&◌, List, [], ◌∷◌, ◌++◌, bytes_eq, refl, ap, ◌∙◌, Ordering}
use Rattle.std.specs.FinMap.{IsAntisymmetric, nat_cmp-IsAntisymmetric, slice_cmp-IsAntisymmetric}
use Rattle.std.specs.Cmp.{tied_itself}
use Rattle.std.specs.Cmp.Lexicographic.{slice_cmp, nat_list_cmp_total, texts_ties}
use Rattle.std.specs.Ordering.{nat_cmp, is_eq, is_gt, is_le}
use Rattle.std.specs.declared.cmp.Ordering.TheVariants.{Less, Equal, Greater}
use Rattle.sync_path.specs.Path.{path_cmp, is_under}
use Rattle.sync_path.proofs.Intervals.{path_cmp_exact, under_is_behind, between_is_under}
use Rattle.sync_path.proofs.Below.{name_tie}
pub use Rattle.sync_path.proofs.Below.{below_is, tied}
use Rattle.entry_tree.specs.Tree.{Names, is_below}

-- only equal names tie, and only equal paths
pub name_same : IsAntisymmetric (slice_cmp nat_cmp)
name_same = slice_cmp-IsAntisymmetric nat_cmp-IsAntisymmetric

pub path_same : IsAntisymmetric path_cmp
path_same = path_cmp_exact

pub both_true : (a b : Bool) → (a && b) ≡ true → (a ≡ true) × (b ≡ true)
both_true true b h = (refl, h)
both_true false b h = absurd (cc)

pub name_is : (a b : List ℕ) → bytes_eq a b ≡ true → a ≡ b
name_is a b h = name_same a b (name_tie a b h)

pub name_itself : (a : List ℕ) → bytes_eq a a ≡ true
name_itself a = texts_ties a a ∙ ap is_eq (tied_itself nat_list_cmp_total a)

-- a path lies under itself
pub under_itself : (p : Names) → is_under p p ≡ true
under_itself [] = refl
under_itself (x ∷ p) = ap (λ b. b && is_under p p) (name_itself x) ∙ under_itself p

le_is : (r : Ordering) → is_gt r ≡ false → is_le r ≡ true
le_is Less h = refl
le_is Equal h = refl
le_is Greater h = absurd (cc)

not_gt : (r : Ordering) → is_le r ≡ true → is_gt r ≡ false
not_gt Less h = refl
not_gt Equal h = refl
not_gt Greater h = absurd (cc)

-- a path is not above what lies under it
pub under_le : (k p : Names) → is_under k p ≡ true → is_le (path_cmp p k) ≡ true
under_le k p h = le_is (path_cmp p k) (under_is_behind p k h)

-- between a path and what lies under it, all lies under it
pub under_between : (p a b : Names) → is_le (path_cmp p a) ≡ true → path_cmp a b ≡ Less → is_under b p ≡ true → is_under a p ≡ true
under_between p a b le lt h = between_is_under p p a b (under_itself p) h (not_gt (path_cmp p a) le) (ap is_gt lt)

-- under a path, one name more stays under it
pub under_child : (q p : Names) (n : List ℕ) → is_under q p ≡ true → is_under (q ++ n ∷ []) p ≡ true
under_child [] [] n h = refl
under_child (x ∷ q) [] n h = refl
under_child [] (m ∷ p) n h = absurd (cc)
under_child (x ∷ q) (m ∷ p) n h =
    let parts = both_true (bytes_eq m x) (is_under q p) h in
    ap (λ b. b && is_under (q ++ n ∷ []) p) parts.0 ∙ under_child q p n parts.1

pub below_child : (q p : Names) (n : List ℕ) → is_below q p ≡ true → is_below (q ++ n ∷ []) p ≡ true
below_child [] [] n h = absurd (cc)
below_child (x ∷ q) [] n h = refl
below_child [] (m ∷ p) n h = absurd (cc)
below_child (x ∷ q) (m ∷ p) n h =
    let parts = both_true (bytes_eq m x) (is_below q p) h in
    ap (λ b. b && is_below (q ++ n ∷ []) p) parts.0 ∙ below_child q p n parts.1

-- a path's child lies below it, and the path not below its child
pub child_below : (p : Names) (n : List ℕ) → is_below (p ++ n ∷ []) p ≡ true
child_below [] n = refl
child_below (x ∷ p) n = ap (λ b. b && is_below (p ++ n ∷ []) p) (name_itself x) ∙ child_below p n

pub not_below_child : (p : Names) (n : List ℕ) → is_below p (p ++ n ∷ []) ≡ false
not_below_child [] n = refl
not_below_child (x ∷ p) n = ap (λ b. b && is_below p (p ++ n ∷ [])) (name_itself x) ∙ not_below_child p n

pub not_below_itself : (p : Names) → is_below p p ≡ false
not_below_itself [] = refl
not_below_itself (x ∷ p) = ap (λ b. b && is_below p p) (name_itself x) ∙ not_below_itself p
