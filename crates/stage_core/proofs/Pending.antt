-- What is passed over is kept already.
use Rattle.std.proofs.Common.{◌≡◌, suc, ◌≤◌, Bool, true, false, List, [], ◌∷◌, ◌++◌, length, arith, refl, sym, ap, ◌∙◌}
use Rattle.std.specs.Prelude.{if◌then◌else◌}
use Rattle.std.specs.FinMap as map
use Rattle.std.specs.List.{list_all}
use Rattle.stage_core.specs.Staging.{Digests, pending}
use Rattle.stage_core.specs.declared.need.Need.{Need}

module _ (kept : Digests) where
  pub pending_shorter : (left : List Need) → length (pending kept left) ≤ length left
  pending_shorter [] = omega arith
  pending_shorter (need ∷ left) =
      let rest = pending_shorter left in
      elim (map.contains_key kept need.digest) as (λ b. length (if b then pending kept left else need ∷ left) ≤ suc (length left)) [ true ↦ omega (arith, rest) | false ↦ omega arith ]

  -- these files are passed over: each is kept, and the others are pending
  pub record PassesOver (left : List Need) : Type 0 where
    pub over : List Need
    pub joined : left ≡ over ++ pending kept left
    pub are_kept : list_all (λ (need : Need). map.contains_key kept need.digest) over ≡ true

  pub passes_over : (left : List Need) → PassesOver left
  passes_over [] = record { over = []; joined = refl; are_kept = refl }
  passes_over (need ∷ left) =
      let rest = passes_over left in
      elim (map.contains_key kept need.digest) as (λ b. map.contains_key kept need.digest ≡ b → PassesOver (need ∷ left)) [
        | true ↦ λ e. record { over = need ∷ rest.over; joined = ap (λ (l : List Need). need ∷ l) rest.joined ∙ ap (λ (b : Bool). need ∷ (rest.over ++ (if b then pending kept left else need ∷ left))) (sym e); are_kept = grind (arith, e, rest.are_kept) }
        | false ↦ λ e. record { over = []; joined = ap (λ (b : Bool). if b then pending kept left else need ∷ left) (sym e); are_kept = refl }
      ] refl
