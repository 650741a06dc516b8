-- What holds of the answers at the paths of a list, holds of the list of answers.
use Rattle.std.proofs.Common.{◌≡◌, Bool, true, false, cond, List, [], ◌∷◌, refl, Option, Some, None}
use Rattle.std.specs.List.{filter, filter_map, cons_option, AllByRecursion}
use Rattle.std.specs.List.Sorted.{IsStrictlySortedBy}
use Rattle.std.proofs.lemmas.Map.Keys.{sorted_head, sorted_tail}
use Rattle.sync_path.specs.Path.{path_cmp}
use Rattle.entry_tree.specs.Tree.{Names}
use Rattle.mode_rules.specs.PointLaws.{EachPair, IsBefore}

both_all : {X : Type 0} (P Q : X → Type 0) (xs : List X) → AllByRecursion P xs → AllByRecursion Q xs → AllByRecursion (λ x. P x × Q x) xs
both_all P Q [] p q = tt
both_all P Q (x ∷ xs) p q = ((p.0, q.0), both_all P Q xs p.1 q.1)

module _ {Y : Type 0} (In : Names → Type 0) (test : Names → Bool) (f : Names → Option Y) where
  first_kept : (P : Y → Type 0) (ys : List Y) (o : Option Y) → ((y : Y) → o ≡ Some y → P y) → AllByRecursion P ys → AllByRecursion P (cons_option o ys)
  first_kept P ys None each rest = rest
  first_kept P ys (Some y) each rest = (each y refl, rest)

  -- of each answer at a path that passes the test
  pub kept_in : (P : Y → Type 0) → ((p : Names) → In p → test p ≡ true → (y : Y) → f p ≡ Some y → P y) → (ps : List Names) → AllByRecursion In ps
      → AllByRecursion P (filter_map f (filter test ps))
  kept_in P each [] ins = tt
  kept_in P each (p ∷ ps) ins = by (test p) refl (kept_in P each ps ins.1)
    where
      by : (c : Bool) → test p ≡ c → AllByRecursion P (filter_map f (filter test ps)) → AllByRecursion P (filter_map f (cond c (p ∷ filter test ps) (filter test ps)))
      by true e rest = first_kept P (filter_map f (filter test ps)) (f p) (each p ins.0 e) rest
      by false e rest = rest

module _ {Y : Type 0} (In : Names → Type 0) (test : Names → Bool) (f : Names → Option Y) where
  first_pair : (R : Y → Y → Type 0) (ys : List Y) (o : Option Y) → ((y : Y) → o ≡ Some y → AllByRecursion (R y) ys) → EachPair R ys → EachPair R (cons_option o ys)
  first_pair R ys None each rest = rest
  first_pair R ys (Some y) each rest = (each y refl, rest)

  -- of each two of them, where the paths are in order
  pub pairs_in : (R : Y → Y → Type 0)
      → ((p q : Names) → In p → In q → test p ≡ true → test q ≡ true → IsBefore p q → (y z : Y) → f p ≡ Some y → f q ≡ Some z → R y z)
      → (ps : List Names) → AllByRecursion In ps → IsStrictlySortedBy path_cmp ps → EachPair R (filter_map f (filter test ps))
  pairs_in R each [] ins sorted = tt
  pairs_in R each (p ∷ ps) ins sorted = by (test p) refl (pairs_in R each ps ins.1 (sorted_tail path_cmp p ps sorted))
    where
      by : (c : Bool) → test p ≡ c → EachPair R (filter_map f (filter test ps)) → EachPair R (filter_map f (cond c (p ∷ filter test ps) (filter test ps)))
      by true e rest =
          first_pair R (filter_map f (filter test ps)) (f p)
          (λ y is. kept_in (λ q. In q × IsBefore p q) test f (R y) (λ q both passes z at. each p q ins.0 both.0 e passes both.1 y z is at) ps
          (both_all In (IsBefore p) ps ins.1 (sorted_head path_cmp p ps sorted))) rest
      by false e rest = rest

module _ {Y Z : Type 0} (In : Names → Type 0) (test : Names → Bool) (f : Names → Option Y) (g : Names → Option Z) where
  -- of each two of them of two lists
  pub crosses_in : (R : Y → Z → Type 0) → ((p q : Names) → In p → In q → test p ≡ true → test q ≡ true → (y : Y) (z : Z) → f p ≡ Some y → g q ≡ Some z → R y z)
      → (ps : List Names) → AllByRecursion In ps → AllByRecursion (λ y. AllByRecursion (R y) (filter_map g (filter test ps))) (filter_map f (filter test ps))
  crosses_in R each ps ins =
      kept_in In test f (λ y. AllByRecursion (R y) (filter_map g (filter test ps)))
      (λ p has passes y is. kept_in In test g (R y) (λ q too also z at. each p q has too passes also y z is at) ps ins) ps ins
