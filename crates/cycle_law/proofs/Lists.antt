-- What holds of each element of a list.
use Rattle.std.proofs.Common.{◌≡◌, Bool, true, false, cond, List, [], ◌∷◌, ◌++◌, reverse, refl, sym, subst, ◌∙◌}
use Rattle.std.specs.List.{AllByRecursion, filter, flat_map, list_all}
use Rattle.std.proofs.lemmas.Bool.{and_parts}
use Rattle.std.proofs.lemmas.List.{reverse-append}

module _ {X : Type 0} (P : X → Type 0) where
  pub all_joined : (xs ys : List X) → AllByRecursion P xs → AllByRecursion P ys → AllByRecursion P (xs ++ ys)
  all_joined [] ys p q = q
  all_joined (x ∷ xs) ys p q = (p.0, all_joined xs ys p.1 q)

  pub all_turned : (xs : List X) → AllByRecursion P xs → AllByRecursion P (reverse xs)
  all_turned [] all = tt
  all_turned (x ∷ xs) all = subst (AllByRecursion P) (sym (reverse-append (x ∷ []) xs)) (all_joined (reverse xs) (x ∷ []) (all_turned xs all.1) (all.0, tt))

  pub all_each : ((x : X) → P x) → (xs : List X) → AllByRecursion P xs
  all_each f [] = tt
  all_each f (x ∷ xs) = (f x, all_each f xs)

  pub all_tested : (test : X → Bool) → ((x : X) → test x ≡ true → P x) → (xs : List X) → list_all test xs ≡ true → AllByRecursion P xs
  all_tested test each [] h = tt
  all_tested test each (x ∷ xs) h = let both = and_parts (test x) (list_all test xs) h in (each x both.0, all_tested test each xs both.1)

  -- what holds of those that pass a test, holds of each if it passes
  pub all_unfiltered : (test : X → Bool) (xs : List X) → AllByRecursion P (filter test xs) → AllByRecursion (λ x. test x ≡ true → P x) xs
  all_unfiltered test [] all = tt
  all_unfiltered test (x ∷ xs) all = by (test x) refl all (all_unfiltered test xs)
    where
      by : (b : Bool) → test x ≡ b → AllByRecursion P (cond b (x ∷ filter test xs) (filter test xs))
          → (AllByRecursion P (filter test xs) → AllByRecursion (λ x. test x ≡ true → P x) xs) → AllByRecursion (λ x. test x ≡ true → P x) (x ∷ xs)
      by true e rest more = (λ h. rest.0, more rest.1)
      by false e rest more = (λ h. let wrong : false ≡ true = sym e ∙ h in absurd (cc), more rest)

  -- of each that passes a test, what holds of all and what the test says
  pub all_filtered : (Q : X → Type 0) (test : X → Bool) → ((x : X) → test x ≡ true → Q x → P x) → (xs : List X) → AllByRecursion Q xs → AllByRecursion P (filter test xs)
  all_filtered Q test each [] all = tt
  all_filtered Q test each (x ∷ xs) all = by (test x) refl (all_filtered Q test each xs all.1)
    where
      by : (b : Bool) → test x ≡ b → AllByRecursion P (filter test xs) → AllByRecursion P (cond b (x ∷ filter test xs) (filter test xs))
      by true e rest = (each x e all.0, rest)
      by false e rest = rest

pub all_weaker : {Z : Type 0} (R S : Z → Type 0) → ((z : Z) → R z → S z) → (zs : List Z) → AllByRecursion R zs → AllByRecursion S zs
all_weaker R S each [] all = tt
all_weaker R S each (z ∷ zs) all = (each z all.0, all_weaker R S each zs all.1)

module _ {X Y : Type 0} (P : X → Type 0) (Q : Y → Type 0) where
  pub all_flat : (f : X → List Y) → ((x : X) → P x → AllByRecursion Q (f x)) → (xs : List X) → AllByRecursion P xs → AllByRecursion Q (flat_map f xs)
  all_flat f each [] all = tt
  all_flat f each (x ∷ xs) all = all_joined Q (f x) (flat_map f xs) (each x all.0) (all_flat f each xs all.1)
