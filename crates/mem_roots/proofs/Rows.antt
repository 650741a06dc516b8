-- What is written to the row of a session.
use Rattle.std.proofs.Common.{◌≡◌, ℕ, true, false, cond, refl, sym, ap, ◌∙◌, Option, Some, None, Result, Ok, Err}
use Rattle.std.specs.Prelude.{OnOk, OnErr, unwrap_or}
use Rattle.std.specs.declared.alloc.AllocError.{AllocError}
use Rattle.std.specs.FinMap as map
use Rattle.std.specs.FinMap.{FinMap, nat_cmp-IsAntisymmetric}
use Rattle.std.specs.Cmp.{nat_cmp_total}
use Rattle.std.specs.Ordering.{nat_cmp, eq_by_cmp}
use Rattle.entry_tree.proofs.Paths.{tied}
use Rattle.roots_api.specs.States.{Staged, nothing_staged}

-- to put what is there changes nothing
pub insert_same : (m : FinMap nat_cmp Staged) (id : ℕ) (s : Staged) → map.get m id ≡ Some s → map.insert m id s ≡ m
insert_same m id s at =
    map.same_map nat_cmp_total nat_cmp-IsAntisymmetric (map.insert m id s) m
    (λ q. map.get-insert nat_cmp_total m id s q
    ∙ elim (eq_by_cmp nat_cmp q id) as (λ b. eq_by_cmp nat_cmp q id ≡ b → cond b (Some s) (map.get m q) ≡ map.get m q) [
      | true ↦ λ e. sym (ap (map.get m) (nat_cmp-IsAntisymmetric q id (tied (nat_cmp q id) e)) ∙ at)
      | false ↦ λ e. refl
    ] refl)

module _ (m n : FinMap nat_cmp Staged) (id : ℕ) where
  pub where_written : (f : Staged → Staged) (s new : Staged) (r : Result Unit AllocError) → map.get m id ≡ Some s → n ≡ map.insert m id new → OnOk r (new ≡ f s)
      → OnOk r (n ≡ map.insert m id (f (unwrap_or (map.get m id) nothing_staged)))
  where_written f s new (Ok x) at is h =
      is ∙ ap (map.insert m id) (h ∙ ap (λ (o : Option Staged). f (unwrap_or o nothing_staged)) (sym at))
  where_written f s new (Err e) at is h = tt

  pub where_kept : (s new : Staged) (r : Result Unit AllocError) → map.get m id ≡ Some s → n ≡ map.insert m id new → OnErr r (new ≡ s) → OnErr r (n ≡ m)
  where_kept s new (Ok x) at is h = tt
  where_kept s new (Err e) at is h = is ∙ ap (map.insert m id) h ∙ insert_same m id s at

  pub where_begun : (f : Staged → Staged) (old : FinMap nat_cmp Staged) (r : Result Unit AllocError) → old ≡ m → map.get m id ≡ None → OnOk r (n ≡ map.insert old id (f nothing_staged))
      → OnOk r (n ≡ map.insert m id (f (unwrap_or (map.get m id) nothing_staged)))
  where_begun f old (Ok x) same at h =
      h ∙ ap (λ (t : FinMap nat_cmp Staged). map.insert t id (f nothing_staged)) same
      ∙ ap (λ (o : Option Staged). map.insert m id (f (unwrap_or o nothing_staged))) (sym at)
  where_begun f old (Err e) same at h = tt
