-- Roots by their numbers.
use Rattle.std.proofs.Common.{◌≡◌, ◌≢◌, ℕ, ◌-◌, ◌<◌, true, false, ◌&&◌, cond, List, [], ◌∷◌, replicate, refl, sym, ap, subst, ◌∙◌, Option, Some, None, slice_set, nat_le, nat_lt, ◌≤◌, arith}
use Rattle.std.specs.Prelude.{◌==◌}
use Rattle.std.proofs.lemmas.Bool.{leb-true, ltb-true, ltb-false, eqb-true, eq-eqb, false≢true}
use Rattle.std.proofs.lemmas.List.{get_or-set_other, get_or-replicate, length-replicate}
use Rattle.std.proofs.Math.ListN.{get_or-eq_default}
use Rattle.roots_api.specs.Logs.{IsLegal, failed_in}
use Rattle.roots_api.specs.declared.root_id.RootId.{RootId}
use Rattle.mem_roots.specs.MemRoot.{MemState, new_mem}
use Rattle.mem_roots.specs.Named.{AreLegalLogs, named_root, root_at}
use Rattle.mem_roots.specs.declared.mem_roots.TheConstants.{ROOTS}

number_of : Option RootId → ℕ
number_of None = 0
number_of (Some root) = root.0

letter_small : (letter : ℕ) (root : RootId) → named_root (letter ∷ []) ≡ Some root → root.0 < ROOTS
unfolding named_root number_of
letter_small letter root h =
    elim (nat_le 65 letter) as (λ b. nat_le 65 letter ≡ b → ◌≡◌ {A = Option RootId} (cond (b && nat_le letter 72) (Some (record { 0 = letter - 65 })) None) (Some root) → root.0 < ROOTS) [
      | true ↦ λ e. elim (nat_le letter 72) as (λ b. nat_le letter 72 ≡ b → ◌≡◌ {A = Option RootId} (cond b (Some (record { 0 = letter - 65 })) None) (Some root) → root.0 < ROOTS) [
        | true ↦ λ f g.
            let at : letter - 65 ≡ root.0 = ap number_of g in
            let most = leb-true letter 72 f in
            omega arith
        | false ↦ λ f g. absurd (cc)
      ] refl
      | false ↦ λ e g. absurd (cc)
    ] refl h

-- a root that has a name is one of eight
pub number_small : (name : List ℕ) (root : RootId) → named_root name ≡ Some root → root.0 < ROOTS
unfolding named_root
number_small [] root h = absurd (cc)
number_small (letter ∷ []) root h = letter_small letter root h
number_small (letter ∷ other ∷ name) root h = absurd (cc)

-- the other roots stay where one is set
pub others_stay : (old new : List MemState) (root other : RootId) → new ≡ slice_set old root.0 (root_at new root) → other ≢ root → root_at new other ≡ root_at old other
others_stay old new root other is apart =
    ap (λ (l : List MemState). root_at l other) is
    ∙ get_or-set_other old root.0 other.0 (root_at new root) new_mem (λ e. apart (λ i. record { 0 = e i }))

numbers_are : (a b : RootId) → a.0 ≡ b.0 → a ≡ b
numbers_are a b h = λ i. record { 0 = h i }

by_number : (P : RootId → Type 0) (root : RootId) → P root → ((other : RootId) → other ≢ root → P other) → (any : RootId) → P any
by_number P root here there any =
    elim (any.0 == root.0) as (λ b. (any.0 == root.0) ≡ b → P any) [
      | true ↦ λ e. subst P (sym (numbers_are any root (eqb-true any.0 root.0 e))) here
      | false ↦ λ e. there any (λ (h : any ≡ root). false≢true (sym e ∙ eq-eqb any.0 root.0 (ap (λ (r : RootId). r.0) h)))
    ] refl

module _ (old new : List MemState) (root any : RootId) (is : new ≡ slice_set old root.0 (root_at new root)) where
  pub all_faults : failed_in (root_at new root).log ≡ failed_in (root_at old root).log → failed_in (root_at new any).log ≡ failed_in (root_at old any).log
  all_faults h =
      by_number (λ (r : RootId). failed_in (root_at new r).log ≡ failed_in (root_at old r).log) root h
      (λ other apart. ap (λ (m : MemState). failed_in m.log) (others_stay old new root other is apart)) any

  pub all_fulls : (root_at new root).full_answers ≡ (root_at old root).full_answers → (root_at new any).full_answers ≡ (root_at old any).full_answers
  all_fulls h =
      by_number (λ (r : RootId). (root_at new r).full_answers ≡ (root_at old r).full_answers) root h
      (λ other apart. ap (λ (m : MemState). m.full_answers) (others_stay old new root other is apart)) any

-- logs stay legal where one of them does
pub legal_set : (old new : List MemState) (root : RootId) → new ≡ slice_set old root.0 (root_at new root) → AreLegalLogs old → IsLegal (root_at new root).log → AreLegalLogs new
legal_set old new root is before here any =
    by_number (λ (r : RootId). IsLegal (root_at new r).log) root here
    (λ other apart. subst (λ (m : MemState). IsLegal m.log) (sym (others_stay old new root other is apart)) (before other)) any

-- so are those of new roots
pub legal_new : (n : ℕ) → AreLegalLogs (replicate n new_mem)
legal_new n root =
    elim (nat_lt root.0 n) as (λ b. nat_lt root.0 n ≡ b → IsLegal (root_at (replicate n new_mem) root).log) [
      | true ↦ λ e. subst (λ (m : MemState). IsLegal m.log) (sym (get_or-replicate n root.0 new_mem new_mem (ltb-true root.0 n e))) tt
      | false ↦ λ e.
          let most : n ≤ root.0 = ltb-false root.0 n e in
          let long = length-replicate n new_mem in
          subst (λ (m : MemState). IsLegal m.log) (sym (get_or-eq_default (replicate n new_mem) new_mem {n = root.0} (omega arith))) tt
    ] refl
